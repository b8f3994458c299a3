-- What a change leaves of entries that wait and of notes, and what a fetch does to the notes.
use Rattle.std.proofs.Common.{◌≡◌, ◌≢◌, ℕ, ◌+◌, ◌<◌, ◌≤◌, true, false, not, ◌&&◌, List}
use Rattle.std.proofs.Common.{length, get_or, Option, Some, None, refl, sym, ◌∙◌, subst, ◌⊎◌, inl, inr, ⊎_elim}
use Rattle.std.proofs.Common.{arith, option_map}
use Rattle.std.proofs.lemmas.Bool.{cases_lt, cond_both}
use Rattle.std.proofs.lemmas.{List.{get_or-set_other, get_or-set_same}}
use Rattle.std.proofs.Math.ListN.{get_or-eq_default}
use Rattle.dsa_base.specs.Lists.{In}
use Rattle.dsa_base.proofs.{Lists.{In-front}, NumberLists.{get_or-each, get_or-past}, Tables.{one_row}}
use Rattle.dsa_desc.specs.{declared.Descriptor.{Descriptor}, Descriptor.{is_successful}}
use Rattle.dsa_regs.specs.declared.Caps.{Caps}
use Rattle.dsa_store.specs.declared.entry.{Cell.{Cell}}
use Rattle.dsa_store.specs.Content.{HeldEntry, chain, all_held, without_front}
use Rattle.dsa_book.specs.declared.note.BatchNote.{BatchNote}
use Rattle.dsa_book.specs.declared.answer.FetchAnswer.{FetchAnswer, TheVariants.{AllFetched}}
use Rattle.dsa_book.specs.State.{Work, State, is_member, is_batch_of, status_of_entry}
use Rattle.dsa_book.specs.Work.{members, note_at, opened_note, batch_on, is_all_fetched, fetch, fetch_of}
use Rattle.dsa_book.specs.Work.{fetch_for, after_fetch, with_running_entry, with_first_run, progress_list}
use Rattle.dsa_book.specs.Commands.{kept_note}
use Rattle.dsa_laws.specs.{Change.{Change}, Lists.{EachAt}, WellFormed.{IsWellFormed}}
use Rattle.dsa_laws.proofs.Contents.{In-chain, each-place, each-pushed, each-set, each-without_front}
use Rattle.dsa_laws.proofs.{Effects.{by_effect}, Entries.{each-effect, first_run-each}, Shapes.{In-cond, a_taker}}
use Rattle.dsa_keys.proofs.Orders.{In-held}

-- ---- entries that wait

-- it was held as it is, or has the next name
abbrev pub Waited : State → HeldEntry → Type 0
Waited s x = ((y : HeldEntry) × (In y (all_held s.work.content) × (y.1 ≡ x.1))) ⊎ (x.1.name ≡ s.work.setup.next_name)

pub waited : (s s' : State) → Change s s' → (x : HeldEntry) → In x (all_held s'.work.content) → x.1.running ≡ false
    → Waited s x
waited s s' c x i still =
    let place = In-held x s'.work.content i in
    each-effect P s s' old c
    (λ c. each-pushed P s.work.content c.queue _ old (λ r. inr refl))
    (λ c. each-pushed P (without_front s.work.content c.queue) _ (with_running_entry c.front)
    (each-without_front P s.work.content c.queue old) (λ r. absurd cc))
    (λ c. each-pushed P s.work.content _ _ old (λ r. inr refl))
    (λ c. each-set P s.work.content _ (with_first_run (members s.work c.engine)) old
    (first_run-each (λ x. x.1.running ≡ false → Waited s x) (λ x p r. absurd cc) (members s.work c.engine)
    (λ x i. old _ x (In-cond _ x _ i).1)))
    place.0 x place.1 still
  where
    P : ℕ → HeldEntry → Type 0
    P k x = x.1.running ≡ false → Waited s x

    old : EachAt P s.work.content
    old k x i r = inl (x, (In-chain x s.work.content k i, refl))

-- ---- notes

-- the note was there, and as many were fetched at most
pub record IsLaterNote (w : Work) (e : ℕ) (note' : BatchNote) : Type 0 where
  pub note : BatchNote
  pub at : note_at w e ≡ Some note
  pub batch : note.batch ≡ note'.batch
  pub fetched : note.fetched ≤ note'.fetched

-- or it is of a batch that waited
pub record IsNewNote (w : Work) (note' : BatchNote) : Type 0 where
  pub front : HeldEntry
  pub held : In front (all_held w.content)
  pub waits : front.1.running ≡ false
  pub parent : front.1.parent ≡ None
  pub name : front.1.name ≡ note'.batch

abbrev pub NoteCame : Work → ℕ → Option BatchNote → Type 0
NoteCame w e None = Unit {0}
NoteCame w e (Some note') = IsLaterNote w e note' ⊎ IsNewNote w note'

marked : (w : Work) (e : ℕ) (f : BatchNote → BatchNote) → ((n : BatchNote) → (f n).fetched ≡ n.fetched)
    → ((n : BatchNote) → (f n).batch ≡ n.batch) → (o : Option BatchNote) → note_at w e ≡ o
    → NoteCame w e (option_map f o)
marked w e f a b None h = tt
marked w e f a b (Some n) h =
    inl (record { note = n; at = h; batch = sym (b n); fetched = omega (arith, a n) })

pub notes-came : (caps : Caps) (s s' : State) → IsWellFormed caps s → Change s s' → (e : ℕ)
    → NoteCame s.work e (note_at s'.work e)
notes-came caps s s' w c =
    let same : (e : ℕ) → NoteCame s.work e (note_at s.work e) =
    λ e. stays e (note_at s.work e) refl in
    let set = λ (e : ℕ) (note : Option BatchNote) (fits : NoteCame s.work e note).
    each-place (λ j. NoteCame s.work j) None s.work.notes e note same fits in
    by_effect (λ v. (e : ℕ) → NoteCame s.work e (note_at v e)) s s' c
    (λ h e. subst (λ notes. NoteCame s.work e (get_or notes e None)) (sym h.notes) (same e))
    (λ c. same)
    (λ c.
    let k = a_taker w.shape c.engine c.queue c.front c.qualifies c.is_front in
    let at = In-front c.front (chain s.work.content c.queue) c.is_front in
    let p = w.entries.placed c.queue c.front at in
    cond_both (is_batch_of s.work.setup c.front.1) _ _
    (λ (ns : List (Option BatchNote)). (j : ℕ) → NoteCame s.work j (get_or ns j None))
    (λ b. set c.engine (Some (opened_note c.front.1)) (inr (record {
      front = c.front;
      held = In-chain c.front s.work.content c.queue at;
      waits = p.waiting k.queue;
      parent = p.submitted (omega (arith, k.queue));
      name = refl;
    })))
    (λ b. same))
    (λ c. set c.engine _ (inl (record {
      note = c.note;
      at = c.is_note;
      batch = refl;
      fetched = omega arith;
    })))
    (λ c. same)
    (λ c. set c.engine _ (marked s.work c.engine (λ note. record note { closed = true }) (λ n. refl) (λ n. refl)
    (note_at s.work c.engine) refl))
    (λ c. set c.engine _ (cond_both (is_batch_of s.work.setup c.pair.1) _ _ (NoteCame s.work c.engine) (λ b. tt)
    (λ b. cond_both (is_member c.pair.1 && not (is_successful (status_of_entry s.work.setup c.pair.1 c.outcome))) _ _
    (NoteCame s.work c.engine) (λ m. marked s.work c.engine (λ note. record note { failed = true }) (λ n. refl)
    (λ n. refl) (note_at s.work c.engine) refl) (λ m. same c.engine))))
    (λ c j.
    let note : ℕ → Option BatchNote =
    λ e. kept_note s.work.setup c.scope (chain s.work.content (progress_list s.work.setup e)) (note_at s.work e) in
    ⊎_elim
    (λ i. subst (NoteCame s.work j) (sym (get_or-each note s.work.setup.caps.engines j None i))
    (cond_both _ None (note_at s.work j) (NoteCame s.work j) (λ t. tt) (λ t. same j)))
    (λ i. subst (NoteCame s.work j) (sym (get_or-past note s.work.setup.caps.engines j None i)) tt)
    (cases_lt j s.work.setup.caps.engines))
  where
    stays : (e : ℕ) (o : Option BatchNote) → note_at s.work e ≡ o → NoteCame s.work e o
    stays e None h = tt
    stays e (Some note) h = inl (record { note = note; at = h; batch = refl; fetched = omega arith })

-- ---- a fetch

-- the note counts one more, and the other notes stay
pub record CountsOne (w w' : Work) (e : ℕ) (note : BatchNote) : Type 0 where
  pub here : note_at w' e ≡ Some (record note { fetched = note.fetched + 1 })
  pub others : (j : ℕ) → j ≢ e → note_at w' j ≡ note_at w j

abbrev pub FetchLeaves : Work → ℕ → BatchNote → Work → Type 0
FetchLeaves w e note w' = (w'.setup.next_name ≡ w.setup.next_name) ⊎ CountsOne w w' e note

pub note-within : (notes : List (Option BatchNote)) (e : ℕ) (note : BatchNote) → get_or notes e None ≡ Some note
    → e < length notes
note-within notes e note h = ⊎_elim
    (λ l. l)
    (λ l. let no : None ≡ Some note = sym (get_or-eq_default notes None l) ∙ h in absurd cc)
    (cases_lt e (length notes))

pub fetch-leaves : (w : Work) (e : ℕ) (desc : Descriptor) (cell : Cell) (note : BatchNote) → note_at w e ≡ Some note
    → FetchLeaves w e note (fetch w e desc cell).1
fetch-leaves w e desc cell note is =
    subst (λ o. FetchLeaves w e note (fetch_for w e desc cell o).1) (sym is) (found (batch_on w e note))
  where
    found : (o : Option HeldEntry) → FetchLeaves w e note (fetch_of w e desc cell note o).1
    found None = inl refl
    found (Some batch) = one_row (λ (r : FetchAnswer × Work). FetchLeaves w e note r.1) (is_all_fetched note)
        (AllFetched, w) (after_fetch w e desc cell note batch.1) (inl refl) (inr (record {
          here = get_or-set_same w.notes e (Some (record note { fetched = note.fetched + 1 })) None
              (note-within w.notes e note is);
          others = λ j ne. get_or-set_other w.notes e j (Some (record note { fetched = note.fetched + 1 })) None ne;
        }))
