-- How many held entries pass a test of what was submitted before some name: no step of a client or
-- an engine changes it, but for the end of one that passes.
use Rattle.std.proofs.Common.{◌≡◌, ℕ, zero, suc, ◌+◌, ◌<◌, ◌≤◌, Bool, true, false, not, cond, List, [], ◌∷◌}
use Rattle.std.proofs.Common.{length, get_or, Option, Some, None, refl, sym, ap, ◌∙◌, subst, arith, inl, inr, ⊎_elim}
use Rattle.std.proofs.Common.{eq-eqb}
use Rattle.std.proofs.lemmas.{Bool.{cases_lt}, List.{set_past}}
use Rattle.std.specs.Prelude.{find, nat_lt, ◌&&◌, sum_by, count_by}
use Rattle.std.proofs.lemmas.Bool.{and_parts, ltb-true, not-true, false_from_ne_true}
use Rattle.dsa_base.specs.{Lists.{In}, Rows.{passes}}
use Rattle.dsa_base.proofs.Tables.{first_row_or-each, table1, not-both}
use Rattle.dsa_base.proofs.{Lists.{In-find}, Counts.{In-counted, In-same, count-none}}
use Rattle.dsa_desc.specs.declared.{Descriptor.{Descriptor}, Outcome.{Outcome}}
use Rattle.dsa_regs.specs.declared.{Caps.{Caps}, Deed.{Deed, TheVariants.{Enable, Disable, Drain, Abort, Reset}}}
use Rattle.dsa_regs.specs.declared.Scope.{Scope, TheVariants.{Device, Queue, Queues, Pasid}}
use Rattle.dsa_store.specs.declared.entry.{Cell.{Cell}, Entry.{Entry}}
use Rattle.dsa_store.specs.Content.{HeldEntry, Content, is_cell, chain, use_count, entry_of, all_held, count_where}
use Rattle.dsa_store.specs.Content.{after_push}
use Rattle.dsa_store.proofs.Sums.{sum-set, sum-pushed, uses-counted, all_held-filtered}
use Rattle.dsa_store.proofs.Finding.{entry_of-at, placed, Stands}
use Rattle.dsa_book.specs.declared.answer.Cause.{Cause, TheVariants.{AtLimit, NotEnabled, WrongKind}}
use Rattle.dsa_book.specs.declared.answer.{SubmitAnswer.{SubmitAnswer}, DispatchAnswer.{DispatchAnswer}}
use Rattle.dsa_book.specs.declared.answer.{FetchAnswer.{FetchAnswer}, StartAnswer.{StartAnswer}, Ticket.{Ticket}}
use Rattle.dsa_book.specs.declared.answer.FinishAnswer.{FinishAnswer, TheVariants.{Done}}
use Rattle.dsa_book.specs.declared.event.{Portal.{Portal}, Kind.{Kind, TheVariants.{Enqcmd, Movdir64b}}}
use Rattle.dsa_book.specs.declared.note.BatchNote.{BatchNote}
use Rattle.dsa_book.specs.State.{Intake, Work, is_member, is_ticket}
use Rattle.dsa_book.specs.Submit.{submit, submit_table, after_refusal, after_accept}
use Rattle.dsa_book.specs.Work.{dispatch, dispatch_of, front_of, may_leave, qualifies, progress_list}
use Rattle.dsa_book.specs.Work.{fetch, fetch_for, fetch_of, after_fetch, is_all_fetched, note_at, batch_on}
use Rattle.dsa_book.specs.Work.{start, start_of, start_table, first_waiting, members}
use Rattle.dsa_book.specs.Work.{member_list, with_first_run, finish, finish_of, running_on, must_wait}
use Rattle.dsa_book.specs.{Commands.{is_awaited, is_in_scope}, Choice.{Choice, from_queue}}
use Rattle.dsa_laws.specs.WellFormed.{HasShape, CellsOnce, IsPlaced}
use Rattle.dsa_laws.specs.Lists.{EachAt}
use Rattle.dsa_laws.proofs.{Contents.{In-chain, sum-without}, Flows.{sum-taken, sum-first_run}}
use Rattle.dsa_laws.proofs.Shapes.{queues-same, engines-same, queue_list-in, a_taker, waiting-engine, running-place}

-- ---- tests

-- the test passes submitted entries alone, with names below the mark, whether they run or not
pub record IsOfEarlier (test : Entry → Bool) (mark : ℕ) : Type 0 where
  pub alike : (entry : Entry) (running : Bool) → test (record entry { running = running }) ≡ test entry
  pub submitted : (entry : Entry) → test entry ≡ true → is_member entry ≡ false
  pub before : (entry : Entry) → test entry ≡ true → entry.name < mark

-- the same where it is asked only at times
pub guarded : (b : Bool) (test : Entry → Bool) (mark : ℕ) → (b ≡ true → IsOfEarlier test mark)
    → IsOfEarlier (λ entry. b && test entry) mark
guarded true test mark is = is refl
guarded false test mark is = record {
  alike = λ entry running. refl;
  submitted = λ entry t. absurd cc;
  before = λ entry t. absurd cc;
}

scope-alike : (scope : Scope) (entry : Entry) (running : Bool)
    → is_in_scope scope (record entry { running = running }) ≡ is_in_scope scope entry
scope-alike Device entry running = refl
scope-alike (Queue queue) entry running = refl
scope-alike (Queues queues) entry running = refl
scope-alike (Pasid pasid) entry running = refl

-- what a drain waits for is such a test
drained : (scope : Scope) (mark : ℕ)
    → IsOfEarlier (λ entry. is_in_scope scope entry && not (is_member entry) && nat_lt entry.name mark) mark
drained scope mark = record {
  alike = λ entry running. ap (λ b. b && not (is_member entry) && nat_lt entry.name mark)
      (scope-alike scope entry running);
  submitted = λ entry t. not-true _ (and_parts _ _ (and_parts _ _ t).0).1;
  before = λ entry t. ltb-true _ _ (and_parts _ _ t).1;
}

-- and so is what any deed but a disable waits for
pub awaited-earlier : (deed : Deed) (scope : Scope) (mark : ℕ) → (deed ≡ Disable → ⊥)
    → IsOfEarlier (is_awaited deed scope mark) mark
awaited-earlier Disable scope mark other = absurd (other refl)
awaited-earlier Enable scope mark other = drained scope mark
awaited-earlier Drain scope mark other = drained scope mark
awaited-earlier Abort scope mark other = drained scope mark
awaited-earlier Reset scope mark other = drained scope mark

-- ---- the entry in a cell

pub In-at : (xs : List HeldEntry) (k : ℕ) (d : HeldEntry) → k < length xs → In (get_or xs k d) xs
In-at [] k d h = absurd (omega arith)
In-at (x ∷ xs) zero d h = inl refl
In-at (x ∷ xs) (suc k) d h = inr (In-at xs k d (omega arith))

-- what is held in a cell is the entry of the cell
entry-held : (content : Content) (cell : Cell) (pair : HeldEntry) → use_count content cell ≤ 1
    → In pair (all_held content) → is_cell cell pair ≡ true → entry_of content cell ≡ Some pair.1
entry-held content cell pair once held is = ⊎_elim
    (λ none. absurd (omega (arith, none, uses-counted content cell, In-counted (is_cell cell) pair _ held is)))
    (λ (s : Stands content cell).
    let here : In (cell, s.entry) (all_held content) = In-chain _ content s.list
    (subst (λ x. In x (chain content s.list)) s.at.pair
    (In-at (chain content s.list) s.place (cell, s.entry) s.at.within)) in
    let one : count_by (is_cell cell) (all_held content) ≤ 1 = omega (arith, once, uses-counted content cell) in
    entry_of-at content s.list s.place cell s.entry once s.at
    ∙ ap (λ (x : HeldEntry). Some x.1)
    (In-same (is_cell cell) (cell, s.entry) pair (all_held content) one here held (eq-eqb cell.0 cell.0 refl) is))
    (placed content cell)

-- how many of those that pass an answer to an end ends: one where it is Done and the ticket's entry passes
abbrev pub ended_of : (Entry → Bool) → Content → Ticket → FinishAnswer → ℕ
ended_of test content ticket (Done status) = cond (passes test (entry_of content ticket.cell)) 1 0
ended_of test content ticket _ = 0

-- ---- steps

module _ (test : Entry → Bool) (mark : ℕ) (is : IsOfEarlier test mark) where
  abbrev counted : HeldEntry → ℕ
  counted pair = cond (test pair.1) 1 0

  alike-counted : (pair : HeldEntry) → counted (pair.0, record pair.1 { running = true }) ≡ counted pair
  alike-counted pair = ap (λ b. cond {A = ℕ} b 1 0) (is.alike pair.1 true)

  -- an entry that comes does not pass
  later : (entry : Entry) → mark ≤ entry.name → test entry ≡ false
  later entry past = false_from_ne_true _ (λ t. omega (arith, past, is.before entry t))

  pushed-counts : (content : Content) (list : ℕ) (cell : Cell) (entry : Entry) → mark ≤ entry.name
      → count_where test (after_push content list cell entry) ≡ count_where test content
  pushed-counts content list cell entry past = ⊎_elim
      (λ i.
      let no = ap (λ b. cond {A = ℕ} b 1 0) (later entry past) in
      omega (arith, sum-pushed counted content list cell entry i, no))
      (λ out. ap (count_where test) (set_past content list _ out))
      (cases_lt list (length content))

  refused-counts : (i : Intake) (q : ℕ) (kind : Kind) (cause : Cause)
      → count_where test (after_refusal i q kind cause).1.content ≡ count_where test i.content
  refused-counts i q (Enqcmd pasid) cause = refl
  refused-counts i q Movdir64b cause = refl

  pub submit-counts : (i : Intake) (q : ℕ) (portal : Portal) (kind : Kind) (desc : Descriptor) (cell : Cell)
      (answer : SubmitAnswer) (after : Intake) → mark ≤ i.setup.next_name
      → submit i q portal kind desc cell ≡ (answer, after)
      → count_where test after.content ≡ count_where test i.content
  submit-counts i q portal kind desc cell answer after past goes =
      rw goes at (first_row_or-each
      (λ (r : SubmitAnswer × Intake). count_where test r.1.content ≡ count_where test i.content)
      (submit_table i q portal kind) (after_accept i q kind desc cell)
      (refused-counts i q kind NotEnabled, (refused-counts i q kind WrongKind, (refused-counts i q kind AtLimit, tt)))
      (pushed-counts i.content q cell _ past))

  fetch_of-counts : (w : Work) (e : ℕ) (desc : Descriptor) (cell : Cell) (note : BatchNote) (batch : Option HeldEntry)
      → mark ≤ w.setup.next_name
      → count_where test (fetch_of w e desc cell note batch).1.content ≡ count_where test w.content
  fetch_of-counts w e desc cell note None past = refl
  fetch_of-counts w e desc cell note (Some batch) past =
      table1 (λ (r : FetchAnswer × Work). count_where test r.1.content ≡ count_where test w.content)
      (is_all_fetched note) _ (after_fetch w e desc cell note batch.1)
      (λ u. refl)
      (λ u. pushed-counts w.content (member_list w.setup e) cell _ past)

  fetch_for-counts : (w : Work) (e : ℕ) (desc : Descriptor) (cell : Cell) (note : Option BatchNote)
      → mark ≤ w.setup.next_name
      → count_where test (fetch_for w e desc cell note).1.content ≡ count_where test w.content
  fetch_for-counts w e desc cell None past = refl
  fetch_for-counts w e desc cell (Some note) past = fetch_of-counts w e desc cell note (batch_on w e note) past

  pub fetch-counts : (w : Work) (e : ℕ) (desc : Descriptor) (cell : Cell) (answer : FetchAnswer) (after : Work)
      → mark ≤ w.setup.next_name → fetch w e desc cell ≡ (answer, after)
      → count_where test after.content ≡ count_where test w.content
  fetch-counts w e desc cell answer after past goes =
      ap (λ (r : FetchAnswer × Work). count_where test r.1.content) (sym goes)
      ∙ fetch_for-counts w e desc cell (note_at w e) past

  -- a front that moves runs, and counts as before
  dispatch_of-counts : (caps : Caps) (w : Work) (e q : ℕ) (front : Option HeldEntry) → HasShape caps w
      → front_of w q ≡ front → qualifies w e q ≡ true
      → count_where test (dispatch_of w e q front).1.content ≡ count_where test w.content
  dispatch_of-counts caps w e q None shape n may = refl
  dispatch_of-counts caps w e q (Some front) shape n may =
      let k = a_taker shape e q front may n in
      sum-taken counted alike-counted w.content q (progress_list w.setup e) front (queue_list-in shape q k.queue)
      k.engine.progress_inside n

  dispatch_by-counts : (caps : Caps) (w : Work) (e : ℕ) (choice : Choice) → HasShape caps w
      → may_leave w e choice ≡ true
      → count_where test (dispatch w e choice).1.content ≡ count_where test w.content
  dispatch_by-counts caps w e (from_queue q) shape may = dispatch_of-counts caps w e q (front_of w q) shape refl may
  dispatch_by-counts caps w e _ shape may = refl

  pub dispatch-counts : (caps : Caps) (w : Work) (e : ℕ) (choice : Choice) (answer : DispatchAnswer) (after : Work)
      → HasShape caps w → may_leave w e choice ≡ true → dispatch w e choice ≡ (answer, after)
      → count_where test after.content ≡ count_where test w.content
  dispatch-counts caps w e choice answer after shape may goes =
      ap (λ (r : DispatchAnswer × Work). count_where test r.1.content) (sym goes)
      ∙ dispatch_by-counts caps w e choice shape may

  -- no member passes
  members-uncounted : (caps : Caps) (w : Work) (e : ℕ) → HasShape caps w → EachAt (IsPlaced caps) w.content
      → count_by (λ pair. test pair.1) (chain w.content (member_list w.setup e)) ≡ 0
  members-uncounted caps w e shape each = count-none (λ pair. test pair.1) _ (λ x i.
      let member = (each (member_list w.setup e) x i).member (omega (arith, queues-same shape, engines-same shape)) in
      false_from_ne_true _ (λ t. not-both (is_member x.1) member (is.submitted x.1 t)))

  start_of-counts : (caps : Caps) (w : Work) (e : ℕ) (first : Option HeldEntry) → HasShape caps w
      → EachAt (IsPlaced caps) w.content → first_waiting w e ≡ first
      → count_where test (start_of w e first).1.content ≡ count_where test w.content
  start_of-counts caps w e None shape each n = refl
  start_of-counts caps w e (Some pair) shape each n =
      let k = waiting-engine shape e pair n in
      let list = member_list w.setup e in
      first_row_or-each (λ (r : StartAnswer × Work). count_where test r.1.content ≡ count_where test w.content)
      (start_table w e pair) _ (
        refl,
        (
          omega (arith, sum-set counted w.content list [] k.members_inside, members-uncounted caps w e shape each),
          (refl, tt),
        ),
      )
      (omega (
        arith,
        sum-set counted w.content list (with_first_run (members w e)) k.members_inside,
        sum-first_run counted alike-counted (members w e),
        ap (sum_by counted) k.members,
      ))

  pub start-counts : (caps : Caps) (w : Work) (e : ℕ) (answer : StartAnswer) (after : Work) → HasShape caps w
      → EachAt (IsPlaced caps) w.content → start w e ≡ (answer, after)
      → count_where test after.content ≡ count_where test w.content
  start-counts caps w e answer after shape each goes =
      ap (λ (r : StartAnswer × Work). count_where test r.1.content) (sym goes)
      ∙ start_of-counts caps w e (first_waiting w e) shape each refl

  finish_of-counts : (caps : Caps) (w : Work) (e : ℕ) (ticket : Ticket) (outcome : Outcome) (pair : Option HeldEntry)
      → CellsOnce caps w → find (is_ticket ticket) (running_on w e) ≡ pair
      → let r = finish_of w e outcome pair in
      count_where test r.1.content + ended_of test w.content ticket r.0 ≡ count_where test w.content
  finish_of-counts caps w e ticket outcome None once n = omega arith
  finish_of-counts caps w e ticket outcome (Some pair) once n =
      table1 (λ (r : FinishAnswer × Work).
      count_where test r.1.content + ended_of test w.content ticket r.0 ≡ count_where test w.content)
      (must_wait w e pair.1) _ _
      (λ u. omega arith)
      (λ u.
      let place = running-place w e ticket pair n in
      let held = In-chain pair w.content place.list place.at in
      let own : is_cell ticket.cell pair ≡ true =
      (and_parts _ _ (In-find (is_ticket ticket) pair (running_on w e) n).1).0 in
      let entry = entry-held w.content ticket.cell pair (once.once ticket.cell) held own in
      let one : count_by (is_cell pair.0) (all_held w.content) ≤ 1 =
      omega (arith, once.once pair.0, uses-counted w.content pair.0) in
      omega (
        arith,
        sum-without counted (is_cell pair.0) pair (all_held w.content) one held (eq-eqb pair.0.0 pair.0.0 refl),
        ap (sum_by counted) (all_held-filtered (λ x. not (is_cell pair.0 x)) w.content),
        ap (λ o. cond {A = ℕ} (passes test o) 1 0) entry,
      ))

  pub finish-counts : (caps : Caps) (w : Work) (e : ℕ) (ticket : Ticket) (outcome : Outcome) (answer : FinishAnswer)
      (after : Work) → CellsOnce caps w → finish w e ticket outcome ≡ (answer, after)
      → count_where test after.content + ended_of test w.content ticket answer ≡ count_where test w.content
  finish-counts caps w e ticket outcome answer after once goes =
      rw goes at (finish_of-counts caps w e ticket outcome _ once refl)
