-- Where labels say what entries are, the short key says all that the key does; and every step keeps that they do.
use Rattle.std.proofs.Common.{Bool, true, false, List, [], ◌∷◌, sym, filter, cond}
use Rattle.std.proofs.lemmas.{Bool.{and_left}, Option.{same_Some}}
use Rattle.dsa_desc.specs.Descriptor.{is_drain}
use Rattle.dsa_book.specs.Work.{waits_for}
use Rattle.dsa_keys.proofs.Alike.{Both}
use Rattle.dsa_keys.proofs.Keys.{held_waits}
use Rattle.dsa_keys.specs.Key.{waits_as_drain, waits_of, labelled_entry, key}
use Rattle.dsa_keys.specs.Labels.{Labels, labelled_note, with_label, IsFreshLabel}
use Rattle.dsa_keys.specs.Short.{Description, Descriptions, drains_among, described_entry, IsDescribed}
use Rattle.dsa_keys.specs.Short.{BringsDescribed, short_entry, saying, short_key, HasSameShortStep}
use Rattle.dsa_keys.specs.Steps.{event_by_label, next_by_label, IsLabelled}
use Rattle.dsa_keys.proofs.{Both.{both-held, both-filter}, Keys.{head_or, tail_of, both-and-both}}
use Rattle.std.proofs.Common.{◌≡◌, ℕ, ◌+◌, ◌<◌, true, false, map, Option, Some, None, refl, sym, ap}
use Rattle.std.proofs.Common.{◌==◌, ◌∙◌, subst, ⊎_elim, arith}
use Rattle.std.proofs.lemmas.Bool.{eqb-true}
use Rattle.dsa_base.proofs.Lists.{In-find}
use Rattle.dsa_base.{specs.Lists.{In}, proofs.Tables.{first_row_or-each, table1}}
use Rattle.dsa_desc.specs.{declared.Descriptor.{Descriptor}, Descriptor.{with_pasid, pasid_of}}
use Rattle.dsa_regs.specs.{declared.Caps.{Caps}, Config.{queue_at}}
use Rattle.dsa_store.specs.{declared.entry.{Cell.{Cell}, Entry.{Entry}}, Content.{HeldEntry, Content, all_held}}
use Rattle.dsa_book.specs.declared.note.BatchNote.{BatchNote}
use Rattle.dsa_book.specs.declared.event.{Portal.{Portal}, Kind.{Kind, TheVariants.{Enqcmd, Movdir64b}}, Event.{Event}}
use Rattle.dsa_book.specs.declared.event.Event.TheVariants.{Submit, Dispatch, Fetch, Start, Finish, Issue, Poll}
use Rattle.dsa_book.specs.declared.event.Event.TheVariants.{WriteQueue, WriteGroup, ClearError}
use Rattle.dsa_book.specs.declared.answer.{Reply.{Reply}, SubmitAnswer.{SubmitAnswer}, FetchAnswer.{FetchAnswer}}
use Rattle.dsa_book.specs.declared.answer.Cause.{Cause, TheVariants.{AtLimit, NotEnabled, WrongKind}}
use Rattle.dsa_book.specs.declared.answer.FetchAnswer.TheVariants.{AllFetched}
use Rattle.dsa_book.specs.State.{Setup, Intake, Work, State, ticket_of_entry}
use Rattle.dsa_book.specs.Submit.{pasid_by, submit, submit_table, after_refusal, after_accept}
use Rattle.dsa_book.specs.Work.{note_at, running_on, batch_on, in_progress, is_all_fetched, after_fetch, fetch}
use Rattle.dsa_book.specs.Work.{fetch_for, fetch_of}
use Rattle.dsa_book.specs.Work.{member_list}
use Rattle.dsa_book.specs.{Machine.{next, intake_of, reply_of}, Choice.{choice_of, chosen_cell}}
use Rattle.dsa_book.proofs.Nexts.{next-is}
use Rattle.dsa_laws.specs.{Change.{Change}, WellFormed.{IsWellFormed}, Lists.{EachAt}}
use Rattle.dsa_laws.proofs.{Changes.{next-change}, Contents.{each-pushed, In-chain}, Entries.{configs-kept}}
use Rattle.dsa_laws.proofs.Histories.{well_formed-change}
use Rattle.dsa_accounts.proofs.Totals.{next-names}
use Rattle.dsa_book.proofs.Gains.{named_by}
use Rattle.dsa_keys.proofs.{Both.{both-weaken, both-within, both-get}, Keys.{both-of-maps, maps-of-both}}
use Rattle.dsa_keys.proofs.{Known.{known-below}}
use Rattle.dsa_keys.proofs.SameSteps.{keys-say-all, key-named, named-other, named-next}
use Rattle.std.specs.Prelude.{find, option_map, option_and_then}
use Rattle.dsa_keys.proofs.{Orders.{came, In-held}, Engines.{progress-in}}

-- ---- rows of Drains

-- for which held entries each held Drain waits
abbrev drain_waits : Content → List (List Bool)
drain_waits content = waits_of (drains_among (all_held content)) content

-- equal lists of entries by labels, as one
held-faces : (m n : Labels) (c d : Content) → map (map (labelled_entry m)) c ≡ map (map (labelled_entry n)) d
    → Both (λ x y. labelled_entry m x ≡ labelled_entry n y) (all_held c) (all_held d)
held-faces m n c d faces = both-held (λ x y. labelled_entry m x ≡ labelled_entry n y) c d
    (both-weaken (λ xs ys. map (labelled_entry m) xs ≡ map (labelled_entry n) ys)
    (Both (λ x y. labelled_entry m x ≡ labelled_entry n y)) c d
    (λ xs ys b. both-of-maps (labelled_entry m) (labelled_entry n) xs ys b)
    (both-of-maps (map (labelled_entry m)) (map (labelled_entry n)) c d faces))

-- where what does not pass is equal anyway, it is enough that what passes is
from-passing : {X Y Z : Type 0} (R : X → Y → Type 0) (p : X → Bool) (q : Y → Bool) (f : X → Z) (g : Y → Z) (xs : List X)
    (ys : List Y) → ((x : X) (y : Y) → R x y → p x ≡ q y) → ((x : X) (y : Y) → R x y → p x ≡ false → f x ≡ g y)
    → Both R xs ys → map f (filter p xs) ≡ map g (filter q ys) → map f xs ≡ map g ys
from-passing R p q f g [] [] h k b e = refl
from-passing {X} {Y} {Z} R p q f g (x ∷ xs) (y ∷ ys) h k b e =
    step (p x) (q y) refl (sym (h x y b.0)) (from-passing R p q f g xs ys h k b.1) e
  where
    step : (u v : Bool) → p x ≡ u → v ≡ p x → (map f (filter p xs) ≡ map g (filter q ys) → map f xs ≡ map g ys)
        → map f (cond u (x ∷ filter p xs) (filter p xs)) ≡ map g (cond v (y ∷ filter q ys) (filter q ys))
        → map f (x ∷ xs) ≡ map g (y ∷ ys)
    step true true u v more e = λ i. ap (head_or (f x)) e i ∷ more (ap tail_of e) i
    step false false u v more e = λ i. k x y b.0 u i ∷ more e i
    step true false u v more e = absurd cc
    step false true u v more e = absurd cc
from-passing R p q f g [] (y ∷ ys) h k b e = absurd b
from-passing R p q f g (x ∷ xs) [] h k b e = absurd b

-- no other entry waits
idle-row : (m n : Labels) (c d : Content)
    → Both (λ x y. labelled_entry m x ≡ labelled_entry n y) (all_held c) (all_held d) → (a b : HeldEntry)
    → is_drain a.1.desc ≡ false → is_drain b.1.desc ≡ false
    → map (λ (x : HeldEntry). waits_as_drain a.1 x.1) (all_held c) ≡ map (λ (y : HeldEntry). waits_as_drain b.1 y.1)
    (all_held d)
idle-row m n c d both a b p q = maps-of-both (λ x y. labelled_entry m x ≡ labelled_entry n y) _ _ (all_held c)
    (all_held d)
    (λ x y e. and_left (is_drain a.1.desc) (waits_for a.1 x.1) p
    ∙ sym (and_left (is_drain b.1.desc) (waits_for b.1 y.1) q))
    both

waits-of-drains : (m n : Labels) (c d : Content) → map (map (labelled_entry m)) c ≡ map (map (labelled_entry n)) d
    → drain_waits c ≡ drain_waits d → held_waits c ≡ held_waits d
waits-of-drains m n c d faces e =
    let both = held-faces m n c d faces in
    from-passing (λ x y. labelled_entry m x ≡ labelled_entry n y) (λ (a : HeldEntry). is_drain a.1.desc)
    (λ (a : HeldEntry). is_drain a.1.desc)
    _ _ (all_held c) (all_held d) (λ x y f. ap (λ z. is_drain z.desc) f)
    (λ a b f p. idle-row m n c d both a b p (ap (λ z. is_drain z.desc) (sym f) ∙ p)) both e

drains-of-waits : (m n : Labels) (c d : Content) → map (map (labelled_entry m)) c ≡ map (map (labelled_entry n)) d
    → held_waits c ≡ held_waits d → drain_waits c ≡ drain_waits d
drains-of-waits m n c d faces e =
    let R : HeldEntry → HeldEntry → Type 0 = λ a b. (labelled_entry m a ≡ labelled_entry n b)
    × (map (λ (x : HeldEntry). waits_as_drain a.1 x.1) (all_held c) ≡ map (λ (y : HeldEntry). waits_as_drain b.1 y.1)
    (all_held d)) in
    maps-of-both R _ _ _ _ (λ a b r. r.1)
    (both-filter R _ _ (all_held c) (all_held d) (λ a b r. ap (λ z. is_drain z.desc) r.0)
    (both-and-both (λ a b. labelled_entry m a ≡ labelled_entry n b) _ (all_held c) (all_held d)
    (held-faces m n c d faces)
    (both-of-maps _ _ (all_held c) (all_held d) e)))

-- ---- the short key says what the key does

pub key-of-short : (D : Descriptions) (m n : Labels) (s t : State) → IsDescribed D m s → IsDescribed D n t
    → short_key m s ≡ short_key n t → key m s ≡ key n t
key-of-short D m n s t ds dt e =
    let marks = both-within (λ (x y : HeldEntry). short_entry m x ≡ short_entry n y) s.work.content t.work.content
    (both-weaken (λ xs ys. map (short_entry m) xs ≡ map (short_entry n) ys)
    (Both (λ x y. short_entry m x ≡ short_entry n y))
    s.work.content t.work.content
    (λ xs ys b. both-of-maps (short_entry m) (short_entry n) xs ys b)
    (both-of-maps (map (short_entry m)) (map (short_entry n)) s.work.content t.work.content (λ i. (e i).lists))) in
    let lists = maps-of-both (Both E) (map (labelled_entry m)) (map (labelled_entry n)) s.work.content t.work.content
    (λ xs ys b. maps-of-both E (labelled_entry m) (labelled_entry n) xs ys each b) marks in
    let waits = waits-of-drains m n s.work.content t.work.content lists (λ i. (e i).waits) in
    λ i. saying (e i) (lists i) (waits i)
  where
    E : HeldEntry → HeldEntry → Type 0
    E x y = (short_entry m x ≡ short_entry n y) × (In x (all_held s.work.content) × In y (all_held t.work.content))

    each : (x y : HeldEntry) → E x y → labelled_entry m x ≡ labelled_entry n y
    each x y p = ds x p.1.0 ∙ (λ i. described_entry D (e i).setup (p.0 i).label (p.0 i).running) ∙ sym (dt y p.1.1)

-- ---- every step keeps what labels say

-- an entry is as its label says, by these configurations
abbrev Described : (Descriptions) → Labels → Setup → HeldEntry → Type 0
Described D m setup x = labelled_entry m x ≡ described_entry D setup (m x.1.name) x.1.running

refusal-content : (i : Intake) (q : ℕ) (kind : Kind) (cause : Cause) (P : ℕ → HeldEntry → Type 0) → EachAt P i.content
    → EachAt P (after_refusal i q kind cause).1.content
refusal-content i q (Enqcmd pasid) cause P a = a
refusal-content i q Movdir64b cause P a = a

module _ (caps : Caps) (D : Descriptions) (m : Labels) (s : State) (w : IsWellFormed caps s)
    (d : IsDescribed D m s) where
  abbrev P : ℕ → HeldEntry → Type 0
  P list = Described D m s.work.setup

  before : EachAt P s.work.content
  before list x i = d x (In-chain x s.work.content list i)

  -- of a submission
  submit-described : (q : ℕ) (portal : Portal) (kind : Kind) (desc : Descriptor) (cell : Cell)
      → D (m s.work.setup.next_name) ≡ record { desc = desc; queue = q; kind = kind; member = false }
      → EachAt P (submit (intake_of s) q portal kind desc cell).1.content
  submit-described q portal kind desc cell e =
      first_row_or-each (λ (r : SubmitAnswer × Intake). EachAt P r.1.content)
      (submit_table (intake_of s) q portal kind) (after_accept (intake_of s) q kind desc cell) (
        refusal-content (intake_of s) q kind NotEnabled P before,
        (
          refusal-content (intake_of s) q kind WrongKind P before,
          (refusal-content (intake_of s) q kind AtLimit P before, tt),
        ),
      )
      (each-pushed P s.work.content q _ before
      (λ i. let z = sym e i in record {
        label = m s.work.setup.next_name;
        desc = with_pasid z.desc (pasid_by z.kind (queue_at s.work.setup.configs z.queue));
        queue = z.queue;
        running = false;
        member = z.member;
      }))

  -- of a fetch
  fetch-described : (e : ℕ) (desc : Descriptor) (cell : Cell)
      → ((note : BatchNote) → note_at s.work e ≡ Some note
      → D (m s.work.setup.next_name) ≡ record {
        desc = desc;
        queue = (D (m note.batch)).queue;
        kind = (D (m note.batch)).kind;
        member = true;
      })
      → EachAt P (fetch s.work e desc cell).1.content
  fetch-described e desc cell suits = go (note_at s.work e) refl
    where
      found : (note : BatchNote) → note_at s.work e ≡ Some note → (o : Option HeldEntry) → batch_on s.work e note ≡ o
          → EachAt P (fetch_of s.work e desc cell note o).1.content
      found note n None b = before
      found note n (Some batch) b =
          let in_list = In-find (λ (x : HeldEntry). x.1.name == note.batch) batch (in_progress s.work e) b in
          let name = eqb-true batch.1.name note.batch in_list.1 in
          let h = d batch (progress-in s.work e batch in_list.0) in
          let of : Description = D (m note.batch) in
          let pasid = pasid_by of.kind (queue_at s.work.setup.configs of.queue) in
          let q : batch.1.queue ≡ of.queue = ap (λ f. f.queue) h ∙ ap (λ a. (D (m a)).queue) name in
          let p : batch.1.desc.pasid ≡ pasid_of pasid = ap (λ f. f.desc.pasid) h
          ∙ ap (λ a. pasid_of (pasid_by (D (m a)).kind (queue_at s.work.setup.configs (D (m a)).queue))) name in
          let again : pasid_of (pasid_of pasid) ≡ pasid_of pasid = omega arith in
          table1 (λ (r : FetchAnswer × Work). EachAt P r.1.content) (is_all_fetched note) (AllFetched, s.work)
          (after_fetch s.work e desc cell note batch.1)
          (λ u. before)
          (λ u. each-pushed P s.work.content (member_list s.work.setup e) _ before
          ((λ i. record {
            label = m s.work.setup.next_name;
            desc = with_pasid desc (p i);
            queue = q i;
            running = false;
            member = true;
          }) ∙ (λ i. record {
            label = m s.work.setup.next_name;
            desc = record desc { pasid = again i };
            queue = of.queue;
            running = false;
            member = true;
          }) ∙ (λ i. let z = sym (suits note n) i in record {
            label = m s.work.setup.next_name;
            desc = with_pasid z.desc (pasid_by z.kind (queue_at s.work.setup.configs z.queue));
            queue = z.queue;
            running = false;
            member = z.member;
          })))

      go : (o : Option BatchNote) → note_at s.work e ≡ o → EachAt P (fetch_for s.work e desc cell o).1.content
      go None n = before
      go (Some note) n = found note n (batch_on s.work e note) refl

  -- of any other step
  other-described : (s' : State) → Change s s' → s'.work.setup.next_name ≡ s.work.setup.next_name
      → IsWellFormed caps s' → (x : HeldEntry) → In x (all_held s'.work.content) → x.1.name < s'.work.setup.next_name
      → Described D m s.work.setup x
  other-described s' c same w' x i below = ⊎_elim
      (λ o.
      let old : Described D m s.work.setup o.0 = d o.0 o.1.0 in
      (λ j. let z : Entry = sym o.1.1 j in record (labelled_entry m (x.0, z)) { running = x.1.running })
      ∙ (λ j. record (old j) { running = x.1.running })
      ∙ (λ j. let z : Entry = o.1.1 j in described_entry D s.work.setup (m z.name) x.1.running))
      (λ e. absurd (omega (arith, e, below, same)))
      (came s s' c x i)

  -- by the configurations after it
  after-described : (s' : State) → Change s s' → ((x : HeldEntry) → In x (all_held s'.work.content)
      → Described D m s.work.setup x) → IsDescribed D m s'
  after-described s' c old x i =
      let place = In-held x s'.work.content i in
      let h = old x i in
      let queue : x.1.queue ≡ (D (m x.1.name)).queue = ap (λ f. f.queue) h in
      let config : queue_at s'.work.setup.configs (D (m x.1.name)).queue
      ≡ queue_at s.work.setup.configs (D (m x.1.name)).queue =
      ap (queue_at s'.work.setup.configs) (sym queue) ∙ configs-kept caps s s' w c place.0 x place.1
      ∙ ap (queue_at s.work.setup.configs) queue in
      h ∙ (λ j. record (described_entry D s.work.setup (m x.1.name) x.1.running) {
        desc = with_pasid (D (m x.1.name)).desc (pasid_by (D (m x.1.name)).kind (sym config j));
      })

  at-held : (content : Content) → EachAt P content → (x : HeldEntry) → In x (all_held content)
      → Described D m s.work.setup x
  at-held content a x i = let place = In-held x content i in a place.0 x place.1

  pub step-described : (s' : State) (event : Event) (r : Reply) → BringsDescribed D m s event → next s event r ≡ Some s'
      → IsDescribed D m s'
  step-described s' event r suits step = go event suits (next-is s s' event r step).1 (next-names s s' event r step)
    where
      c : Change s s'
      c = next-change s s' event r step

      w' : IsWellFormed caps s'
      w' = well_formed-change caps s s' w c

      others : named_by r ≡ 0 → s'.work.setup.next_name ≡ s.work.setup.next_name + named_by r → IsDescribed D m s'
      others zero names = after-described s' c (λ x i. other-described s' c (omega (arith, zero, names)) w' x i
          (known-below caps s' w' x i))

      go : (event : Event) → BringsDescribed D m s event → reply_of s event (choice_of r) ≡ (r, s')
          → s'.work.setup.next_name ≡ s.work.setup.next_name + named_by r → IsDescribed D m s'
      go (Submit client q portal kind desc) suits is names =
          after-described s' c (at-held s'.work.content
          (subst (λ (z : Reply × State). EachAt P z.1.work.content) is
          (submit-described q portal kind desc (chosen_cell (choice_of r)) suits)))
      go (Fetch e desc) suits is names =
          after-described s' c (at-held s'.work.content
          (subst (λ (z : Reply × State). EachAt P z.1.work.content) is
          (fetch-described e desc (chosen_cell (choice_of r)) suits)))
      go (Dispatch e) suits is names = others (ap (λ (z : Reply × State). named_by z.0) (sym is)) names
      go (Start e) suits is names = others (ap (λ (z : Reply × State). named_by z.0) (sym is)) names
      go (Finish e ticket outcome) suits is names = others (ap (λ (z : Reply × State). named_by z.0) (sym is)) names
      go (Issue command) suits is names = others (ap (λ (z : Reply × State). named_by z.0) (sym is)) names
      go Poll suits is names = others (ap (λ (z : Reply × State). named_by z.0) (sym is)) names
      go (WriteQueue q config) suits is names = others (ap (λ (z : Reply × State). named_by z.0) (sym is)) names
      go (WriteGroup g config) suits is names = others (ap (λ (z : Reply × State). named_by z.0) (sym is)) names
      go ClearError suits is names = others (ap (λ (z : Reply × State). named_by z.0) (sym is)) names

-- ---- the law of short keys

pub short-of-key : (m n : Labels) (s t : State) → key m s ≡ key n t → short_key m s ≡ short_key n t
short-of-key m n s t e =
    let lists = maps-of-both (λ xs ys. map (labelled_entry m) xs ≡ map (labelled_entry n) ys) (map (short_entry m))
    (map (short_entry n))
    s.work.content t.work.content
    (λ xs ys b. maps-of-both (λ x y. labelled_entry m x ≡ labelled_entry n y) (short_entry m) (short_entry n) xs ys
    (λ x y f i. record { label = (f i).label; running = (f i).running })
    (both-of-maps (labelled_entry m) (labelled_entry n) xs ys b))
    (both-of-maps (map (labelled_entry m)) (map (labelled_entry n)) s.work.content t.work.content (λ i. (e i).lists)) in
    let waits = drains-of-waits m n s.work.content t.work.content (λ i. (e i).lists) (λ i. (e i).waits) in
    λ i. saying (e i) (lists i) (waits i)

-- a label for the next name leaves what labels say
described-named : (caps : Caps) (D : Descriptions) (m : Labels) (s : State) (label : ℕ) → IsWellFormed caps s
    → IsDescribed D m s → IsDescribed D (with_label m s.work.setup.next_name label) s
described-named caps D m s label w d x i =
    let same = named-other m s.work.setup.next_name label x.1.name (known-below caps s w x i) in
    (λ j. record (labelled_entry m x) { label = same j }) ∙ d x i
    ∙ (λ j. described_entry D s.work.setup (sym same j) x.1.running)

-- an event brings in what the event by labels does
suits-by : (D : Descriptions) (m : Labels) (s : State) (move event : Event) → event_by_label m s move ≡ Some event
    → BringsDescribed D m s move → BringsDescribed D m s event
suits-by D m s (Submit client q portal kind desc) event e h = subst (BringsDescribed D m s) (same_Some _ _ e) h
suits-by D m s (Fetch engine desc) event e h = subst (BringsDescribed D m s) (same_Some _ _ e) h
suits-by D m s (Finish engine ticket outcome) event e h = ended event
    (find (λ (x : HeldEntry). m x.1.name == ticket.name) (running_on s.work engine)) e
  where
    ended : (event : Event) (o : Option HeldEntry)
        → option_map (λ (x : HeldEntry). Finish engine (ticket_of_entry x) outcome) o ≡ Some event
        → BringsDescribed D m s event
    ended event None e = absurd cc
    ended event (Some x) e = subst (BringsDescribed D m s) (same_Some _ _ e) tt
suits-by D m s (Dispatch engine) event e h = subst (BringsDescribed D m s) (same_Some _ _ e) tt
suits-by D m s (Start engine) event e h = subst (BringsDescribed D m s) (same_Some _ _ e) tt
suits-by D m s (Issue command) event e h = subst (BringsDescribed D m s) (same_Some _ _ e) tt
suits-by D m s Poll event e h = subst (BringsDescribed D m s) (same_Some _ _ e) tt
suits-by D m s (WriteQueue q config) event e h = subst (BringsDescribed D m s) (same_Some _ _ e) tt
suits-by D m s (WriteGroup g config) event e h = subst (BringsDescribed D m s) (same_Some _ _ e) tt
suits-by D m s ClearError event e h = subst (BringsDescribed D m s) (same_Some _ _ e) tt

pub move-described : (caps : Caps) (D : Descriptions) (m : Labels) (s s' : State) (move : Event) (r : Reply)
    → IsWellFormed caps s → IsDescribed D m s → BringsDescribed D m s move → next_by_label m s move r ≡ Some s'
    → IsDescribed D m s'
move-described caps D m s s' move r w d suits step = go (event_by_label m s move) refl step
  where
    go : (o : Option Event) → event_by_label m s move ≡ o → option_and_then (λ event. next s event r) o ≡ Some s'
        → IsDescribed D m s'
    go None e step = absurd cc
    go (Some event) e step = step-described caps D m s w d s' event r (suits-by D m s move event e suits) step

-- an event brings in the same in the other state, whose notes have the same labels
suits-same : (D : Descriptions) (m n : Labels) (s t : State) (move : Event) → key m s ≡ key n t
    → m s.work.setup.next_name ≡ n t.work.setup.next_name → BringsDescribed D m s move → BringsDescribed D n t move
suits-same D m n s t (Submit client q portal kind desc) e same h = ap D (sym same) ∙ h
suits-same D m n s t (Fetch engine desc) e same h = λ note is. go note (note_at s.work engine) refl
    (both-get (λ o p. option_map (labelled_note m) o ≡ option_map
    (labelled_note n) p) s.work.notes t.work.notes engine None None
    (both-of-maps (option_map (labelled_note m)) (option_map (labelled_note n)) s.work.notes t.work.notes
    (λ i. (e i).notes)) refl
    ∙ ap (option_map (labelled_note n)) is)
  where
    go : (note : BatchNote) (o : Option BatchNote) → note_at s.work engine ≡ o
        → option_map (labelled_note m) o ≡ Some (labelled_note n note)
        → D (n t.work.setup.next_name) ≡ record {
          desc = desc;
          queue = (D (n note.batch)).queue;
          kind = (D (n note.batch)).kind;
          member = true;
        }
    go note None a q = absurd cc
    go note (Some z) a q =
        let label : m z.batch ≡ n note.batch = ap (λ (y : BatchNote). y.batch) (same_Some _ _ q) in
        ap D (sym same) ∙ h z a
        ∙ (λ i. record { desc = desc; queue = (D (label i)).queue; kind = (D (label i)).kind; member = true })
suits-same D m n s t (Finish engine ticket outcome) e same h = tt
suits-same D m n s t (Dispatch engine) e same h = tt
suits-same D m n s t (Start engine) e same h = tt
suits-same D m n s t (Issue command) e same h = tt
suits-same D m n s t Poll e same h = tt
suits-same D m n s t (WriteQueue q config) e same h = tt
suits-same D m n s t (WriteGroup g config) e same h = tt
suits-same D m n s t ClearError e same h = tt

pub short-keys-say-all : (caps : Caps) (D : Descriptions) (m n : Labels) (s s' t : State) (move : Event) (r : Reply)
    (label : ℕ) → IsLabelled caps m s → IsLabelled caps n t → IsFreshLabel m s label → IsFreshLabel n t label
    → IsDescribed D m s → IsDescribed D n t → BringsDescribed D (with_label m s.work.setup.next_name label) s move
    → short_key m s ≡ short_key n t → next_by_label (with_label m s.work.setup.next_name label) s move r ≡ Some s'
    → HasSameShortStep caps D (with_label m s.work.setup.next_name label)
    (with_label n t.work.setup.next_name label) s s' t move r
short-keys-say-all caps D m n s s' t move r label hs ht fs ft ds dt suits e step =
    let m' = with_label m s.work.setup.next_name label in
    let n' = with_label n t.work.setup.next_name label in
    let k = key-of-short D m n s t ds dt e in
    let f = keys-say-all caps m n s s' t move r label hs ht fs ft k step in
    let same = named-next m s.work.setup.next_name label ∙ sym (named-next n t.work.setup.next_name label) in
    let keys = key-named caps m s label hs fs ∙ k ∙ sym (key-named caps n t label ht ft) in
    record {
      step = f;
      keys = short-of-key m' n' s' f.t' f.is_same.keys;
      left = move-described caps D m' s s' move r hs.well_formed (described-named caps D m s label hs.well_formed ds)
          suits step;
      right = move-described caps D n' t f.t' move f.reply' ht.well_formed
          (described-named caps D n t label ht.well_formed dt) (suits-same D m' n' s t move keys same suits) f.leads;
    }
