-- Good worlds as facts, and what a change keeps of the labels that were given.
use Rattle.std.proofs.Common.{◌≡◌, ℕ, zero, suc, ◌<◌, ◌≤◌, Bool, true, false, List, [], ◌∷◌}
use Rattle.std.proofs.Common.{get_or, Option, Some, None, refl, sym, ap, ◌∙◌, subst, ⊎_elim, arith}
use Rattle.std.specs.{List.{list_any}, Prelude.{nat_le, is_some}}
use Rattle.std.proofs.lemmas.Bool.{and_parts, and_from, or_parts, or_from, false_from_ne_true, not-true, not_from_false}
use Rattle.std.proofs.lemmas.Bool.{leb-true, le-leb}
use Rattle.dsa_base.{specs.{Lists.{In}}, proofs.{Lists.{In-any, any-In}, Tables.{not-both}}}
use Rattle.dsa_regs.specs.declared.Caps.{Caps}
use Rattle.dsa_store.specs.{declared.entry.Entry.{Entry}, Content.{HeldEntry, all_held}}
use Rattle.dsa_book.specs.declared.note.BatchNote.{BatchNote}
use Rattle.dsa_book.specs.{State.{Work, State, is_member}, Work.{note_at}}
use Rattle.dsa_laws.specs.Change.{Change}
use Rattle.dsa_keys.specs.{Labels.{Labels, with_next_label}, Parties.{World}, Steps.{IsLabelled}}
use Rattle.dsa_keys.proofs.{Known.{IsKnown, known}, SameSteps.{named-other, named-next}, Engines.{progress-in}}
use Rattle.dsa_parties.specs.declared.places.ClientPlace.{ClientPlace}
use Rattle.dsa_parties.specs.declared.script.{Script.{Script}, ScriptEntry.{ScriptEntry}}
use Rattle.dsa_parties.specs.Scripts.{member_label, is_member_label}
use Rattle.dsa_parties.specs.{Standing.{Standing}}
use Rattle.dsa_parties.specs.Good.{stand_within, is_behind, is_of_waiting, is_unfetched, may_be_given, is_good}
use Rattle.dsa_parties.proofs.Fits.{all-below, below-all}
use Rattle.dsa_parties.proofs.States.{waited, IsLaterNote, IsNewNote, NoteCame, notes-came}

-- ---- tests of lists

none-of : {X : Type 0} (p : X → Bool) (xs : List X) → list_any p xs ≡ false → (x : X) → In x xs → p x ≡ false
none-of p xs h x i = false_from_ne_true (p x) (λ t. not-both (list_any p xs) (In-any p x xs i t) h)

of-none : {X : Type 0} (p : X → Bool) (xs : List X) → ((x : X) → In x xs → p x ≡ false) → list_any p xs ≡ false
of-none p xs h = false_from_ne_true (list_any p xs)
    (λ t. let x = any-In p xs t in not-both (p x.0) x.1.1 (h x.0 x.1.0))

none-at : {X : Type 0} (p : X → Bool) (xs : List X) (d : X) → p d ≡ false → list_any p xs ≡ false → (k : ℕ)
    → p (get_or xs k d) ≡ false
none-at p [] d n h k = n
none-at p (x ∷ xs) d n h zero = (or_parts (p x) (list_any p xs) h).0
none-at p (x ∷ xs) d n h (suc k) = none-at p xs d n (or_parts (p x) (list_any p xs) h).1 k

at-none : {X : Type 0} (p : X → Bool) (xs : List X) (d : X) → ((k : ℕ) → p (get_or xs k d) ≡ false)
    → list_any p xs ≡ false
at-none p [] d h = refl
at-none p (x ∷ xs) d h = or_from (p x) (list_any p xs) (h zero) (at-none p xs d (λ k. h (suc k)))

-- ---- labels that were given

pub record Given (script : Script) (places : List ClientPlace) (labels : Labels) (w : Work) (label : ℕ) : Type 0 where
  pub behind : is_behind script.clients.items places label ≡ true
  pub waiting : (x : HeldEntry) → In x (all_held w.content)
      → is_of_waiting script.entries.items labels label x ≡ false
  pub notes : (e : ℕ) → is_unfetched script.entries.items labels label (note_at w e) ≡ false

given-of : (script : Script) (places : List ClientPlace) (labels : Labels) (w : Work) (label : ℕ)
    → may_be_given script.entries.items script.clients.items places labels w label ≡ true
    → Given script places labels w label
given-of script places labels w label h =
    let a = and_parts _ _ h in
    let b = and_parts _ _ a.0 in
    record {
      behind = b.0;
      waiting = none-of (is_of_waiting script.entries.items labels label) (all_held w.content) (not-true _ b.1);
      notes = none-at (is_unfetched script.entries.items labels label) w.notes None refl (not-true _ a.1);
    }

of-given : (script : Script) (places : List ClientPlace) (labels : Labels) (w : Work) (label : ℕ)
    → Given script places labels w label
    → may_be_given script.entries.items script.clients.items places labels w label ≡ true
of-given script places labels w label g = and_from _ _
    (and_from _ _ g.behind (not_from_false _
    (of-none (is_of_waiting script.entries.items labels label) (all_held w.content) g.waiting)))
    (not_from_false _ (at-none (is_unfetched script.entries.items labels label) w.notes None g.notes))

pub record Good (script : Script) (w : World Standing) : Type 0 where
  pub within : stand_within script.entries.items script.clients.items w.places.clients ≡ true
  pub given : (name : ℕ) → name < w.state.work.setup.next_name
      → Given script w.places.clients w.labels w.state.work (w.labels name)

pub good-of : (script : Script) (w : World Standing) → is_good script w ≡ true → Good script w
good-of script w h =
    let a = and_parts _ _ h in
    record {
      within = a.0;
      given = λ name l. given-of script w.places.clients w.labels w.state.work (w.labels name)
          (all-below (λ name. may_be_given script.entries.items script.clients.items w.places.clients w.labels
          w.state.work (w.labels name)) w.state.work.setup.next_name name a.1 l);
    }

pub of-good : (script : Script) (w : World Standing) → Good script w → is_good script w ≡ true
of-good script w g = and_from _ _ g.within
    (below-all (λ name. may_be_given script.entries.items script.clients.items w.places.clients w.labels
    w.state.work (w.labels name)) w.state.work.setup.next_name
    (λ name l. of-given script w.places.clients w.labels w.state.work (w.labels name) (g.given name l)))

-- ---- after a change

-- what waits is a submitted entry that does not run, and the label is of a member of it
pub record OfWaiting (entries : List ScriptEntry) (labels : Labels) (label : ℕ) (x : HeldEntry) : Type 0 where
  pub waits : x.1.running ≡ false
  pub submitted : is_member x.1 ≡ false
  pub member : is_member_label entries (labels x.1.name) label ≡ true

pub of-waiting : (entries : List ScriptEntry) (labels : Labels) (label : ℕ) (x : HeldEntry)
    → is_of_waiting entries labels label x ≡ true → OfWaiting entries labels label x
of-waiting entries labels label x h =
    let a = and_parts _ _ h in
    let b = and_parts _ _ a.0 in
    record { waits = not-true _ b.0; submitted = not-true _ b.1; member = a.1 }

pub waiting-of : (entries : List ScriptEntry) (labels : Labels) (label : ℕ) (x : HeldEntry)
    → OfWaiting entries labels label x → is_of_waiting entries labels label x ≡ true
waiting-of entries labels label x o =
    and_from _ _ (and_from _ _ (not_from_false _ o.waits) (not_from_false _ o.submitted)) o.member

-- the batch of a note has a name
pub note-named : (caps : Caps) (labels : Labels) (s : State) → IsLabelled caps labels s → (e : ℕ) (note : BatchNote)
    → note_at s.work e ≡ Some note → note.batch < s.work.setup.next_name
note-named caps labels s h e note at =
    let k = known caps labels s h.well_formed h.distinct in
    let b = k.batches e note at in
    omega (arith, b.1.1, k.below b.0 (progress-in s.work e b.0 b.1.0))

module _ (caps : Caps) (script : Script) (w : World Standing) (h : IsLabelled caps w.labels w.state)
    (s' : State) (change : Change w.state s') (new : ℕ) where
  abbrev entries : List ScriptEntry
  entries = script.entries.items

  abbrev labels' : Labels
  labels' = with_next_label w.labels w.state new

  is-known : IsKnown w.labels w.state.work
  is-known = known caps w.labels w.state h.well_formed h.distinct

  -- an entry that waits after the change waited before it, or has the new label
  pub data Waits (x : HeldEntry) : Type 0 where
    waited_before : (y : HeldEntry) → In y (all_held w.state.work.content) → y.1 ≡ x.1
        → labels' x.1.name ≡ w.labels y.1.name → Waits x
    is_new : labels' x.1.name ≡ new → Waits x

  pub waits : (x : HeldEntry) → In x (all_held s'.work.content) → x.1.running ≡ false → Waits x
  waits x i still = ⊎_elim
      (λ o.
      let name = ap (λ (z : Entry). z.name) o.1.1 in
      waited_before o.0 o.1.0 o.1.1
      (ap labels' (sym name)
      ∙ named-other w.labels w.state.work.setup.next_name new o.0.1.name (is-known.below o.0 o.1.0)))
      (λ q. is_new (ap labels' q ∙ named-next w.labels w.state.work.setup.next_name new))
      (waited w.state s' change x i still)

  -- a label that was given stays given, where clients stand behind it and it is of no member of what comes in
  pub still-given : (label : ℕ) (places' : List ClientPlace)
      → Given script w.places.clients w.labels w.state.work label
      → is_behind script.clients.items places' label ≡ true
      → (is_member_label entries new label ≡ true → ⊥)
      → Given script places' labels' s'.work label
  still-given label places' g behind apart = record {
    behind = behind;
    waiting = λ x i. false_from_ne_true _ (λ t. waiting x i (of-waiting entries labels' label x t));
    notes = λ e. note e (note_at s'.work e) (notes-came caps w.state s' h.well_formed change e);
  }
    where
      was : (x : HeldEntry) (o : OfWaiting entries labels' label x) → Waits x → ⊥
      was x o (waited_before y i e name) =
          not-both _ (waiting-of entries w.labels label y (record {
            waits = ap (λ (z : Entry). z.running) e ∙ o.waits;
            submitted = ap is_member e ∙ o.submitted;
            member = subst (λ a. is_member_label entries a label ≡ true) name o.member;
          })) (g.waiting y i)
      was x o (is_new e) = apart (subst (λ a. is_member_label entries a label ≡ true) e o.member)

      waiting : (x : HeldEntry) → In x (all_held s'.work.content) → OfWaiting entries labels' label x → ⊥
      waiting x i o = was x o (waits x i o.waits)

      later : (e : ℕ) (note' : BatchNote) (l : IsLaterNote w.state.work e note')
          → is_unfetched entries labels' label (Some note') ≡ true → ⊥
      later e note' l t =
          let a = and_parts (nat_le (member_label (labels' note'.batch) note'.fetched) label)
          (is_member_label entries (labels' note'.batch) label) t in
          let name : labels' note'.batch ≡ w.labels l.note.batch =
          ap labels' (sym l.batch)
          ∙ named-other w.labels w.state.work.setup.next_name new l.note.batch (note-named caps w.labels w.state h e l.note l.at) in
          let from : member_label (labels' note'.batch) note'.fetched ≤ label = leb-true _ _ a.0 in
          let old : is_unfetched entries w.labels label (Some l.note) ≡ true =
          and_from _ _ (le-leb (member_label (w.labels l.note.batch) l.note.fetched) label
          (omega (arith, from, name, l.fetched)))
          (subst (λ a. is_member_label entries a label ≡ true) name a.1) in
          not-both _ old (ap (is_unfetched entries w.labels label) (sym l.at) ∙ g.notes e)

      fresh : (note' : BatchNote) → IsNewNote w.state.work note'
          → is_unfetched entries labels' label (Some note') ≡ true → ⊥
      fresh note' n t =
          let a = and_parts (nat_le (member_label (labels' note'.batch) note'.fetched) label)
          (is_member_label entries (labels' note'.batch) label) t in
          let name : labels' note'.batch ≡ w.labels n.front.1.name =
          ap labels' (sym n.name)
          ∙ named-other w.labels w.state.work.setup.next_name new n.front.1.name
          (is-known.below n.front n.held) in
          not-both _ (waiting-of entries w.labels label n.front (record {
            waits = n.waits;
            submitted = ap is_some n.parent;
            member = subst (λ a. is_member_label entries a label ≡ true) name a.1;
          })) (g.waiting n.front n.held)

      note : (e : ℕ) (o : Option BatchNote) → NoteCame w.state.work e o
          → is_unfetched entries labels' label o ≡ false
      note e None c = refl
      note e (Some note') c = false_from_ne_true _ (λ t. ⊎_elim (λ l. later e note' l t) (λ n. fresh note' n t) c)
