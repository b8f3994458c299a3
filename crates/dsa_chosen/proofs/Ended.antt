-- The fates that a step adds.
use Rattle.dsa_book.specs.declared.event.Event.TheVariants as event
use Rattle.dsa_book.specs.declared.answer.Reply.TheVariants as reply
use Rattle.dsa_book.specs.declared.fate.Fate.TheVariants as fate
use Rattle.std.proofs.Common.{◌≡◌, ◌==◌, ◌+◌, ◌-◌, ◌++◌, ◌∙◌, ◌∷◌, [], ℕ, Bool, List, Option, Some, None, drop, length}
use Rattle.std.proofs.Common.{true, false, arith, refl, sym, ap, subst, eq-eqb, length-append, ⊎_elim, ◌||◌}
use Rattle.std.proofs.lemmas.{Bool.{and_parts, eqb-true, or_left, or_right}, List.{append-nil, length-map}}
use Rattle.std.proofs.Math.Seq.{drop-append_seam}
use Rattle.std.specs.{Prelude.{filter, find}, List.{list_any}}
use Rattle.dsa_base.proofs.{Lists.{In-any, In-find}, Tables.{table1}}
use Rattle.dsa_base.specs.{Lists.{In}, Rows.{passes}}
use Rattle.dsa_desc.specs.declared.Outcome.{Outcome}
use Rattle.dsa_store.specs.Content.{HeldEntry, all_held}
use Rattle.dsa_book.proofs.{Gains.{ended_by}, Nexts.{next-each}}
use Rattle.dsa_book.specs.declared.answer.{FinishAnswer.{FinishAnswer, TheVariants.{Done, NotReady}}}
use Rattle.dsa_book.specs.declared.answer.{IssueAnswer.TheVariants.{Ended}, Reply.{Reply}}
use Rattle.dsa_book.specs.declared.answer.{StartAnswer.TheVariants.{Abandoned}, Ticket.{Ticket}}
use Rattle.dsa_book.specs.declared.event.{Event.{Event}, Step.{Step}}
use Rattle.dsa_book.specs.declared.fate.FateRow.{FateRow}
use Rattle.dsa_book.specs.Commands.{is_in_scope}
use Rattle.dsa_book.specs.Choice.{Choice}
use Rattle.dsa_book.specs.Machine.{next, reply_of, with_work}
use Rattle.dsa_book.specs.State.{State, Work, is_ticket}
use Rattle.dsa_book.specs.Totals.{is_done, lost_by}
use Rattle.dsa_book.specs.Work.{after_end, fate_row, finish_of, last_status, members, must_wait, running_on}
use Rattle.dsa_laws.proofs.{Changes.{next-tells}, Effects.{by_count, gone}}
use Rattle.dsa_laws.specs.Change.{Change}
use Rattle.dsa_chosen.specs.Selected.{is_row_of, is_step_about, lost_rows, name_asked, name_answered}

-- ---- how many

-- so many rows come behind those that were there
record Adds (old new : List FateRow) (count : ℕ) : Type 0 where
  rows : List FateRow
  behind : new ≡ old ++ rows
  counted : length rows ≡ count

adds-none : (old new : List FateRow) → new ≡ old → Adds old new 0
adds-none old new same = record { rows = []; behind = same ∙ sym (append-nil old); counted = refl }

change-adds : (s s' : State) (c : Change s s') → Adds s.work.fates s'.work.fates (gone c)
change-adds s s' c =
    let none = adds-none s.work.fates s.work.fates refl in
    by_count (λ xs n w. Adds s.work.fates w.fates n) s s' c
    (λ e. adds-none s.work.fates _ e.fates) (λ c. none) (λ c. none) (λ c. none) (λ c. none)
    (λ c. record {
      rows = _;
      behind = refl;
      counted = length-map (members s.work c.engine) (fate_row fate.Abandoned);
    })
    (λ c. record { rows = _; behind = refl; counted = refl })
    (λ c. record {
      rows = _;
      behind = refl;
      counted = length-map (filter (λ pair. is_in_scope c.scope pair.1) (all_held s.work.content))
          (fate_row (fate.Aborted c.number));
    })

-- ---- what is aborted or abandoned

ended-lost : (r : Reply) → is_done r ≡ false → ended_by r ≡ lost_by r
ended-lost (reply.Finish (Done status)) e = absurd cc
ended-lost (reply.Start (Abandoned k)) e = refl
ended-lost (reply.Issue (Ended aborted)) e = refl
ended-lost _ e = refl

past : {X : Type 0} (old rows new : List X) → new ≡ old ++ rows → drop (length old) new ≡ rows
past old rows new e = ap (drop (length old)) e ∙ drop-append_seam old rows

from-end : (new old n : ℕ) → new ≡ old + n → new - n ≡ old
from-end new old n e = omega (arith, e)

last-rows : {X : Type 0} (old rows new : List X) (n : ℕ) → new ≡ old ++ rows → length rows ≡ n
    → drop (length new - n) new ≡ rows
last-rows old rows new n e count =
    let added : length new ≡ length old + n = ap length e ∙ length-append old rows ∙ ap (λ k. length old + k) count in
    ap (λ k. drop k new) (from-end (length new) (length old) n added) ∙ past old rows new e

-- the last of the fates, as many as the step ended
pub ended-behind : (s s' : State) (event : Event) (r : Reply) → next s event r ≡ Some s'
    → s'.work.fates ≡ s.work.fates ++ drop (length s'.work.fates - ended_by r) s'.work.fates
ended-behind s s' event r h =
    let told = next-tells s s' event r h in
    let added = change-adds s s' told.change in
    added.behind ∙ ap (λ rows. s.work.fates ++ rows)
    (sym (last-rows s.work.fates added.rows s'.work.fates (ended_by r) added.behind (added.counted ∙ sym told.ended)))

pub lost-behind : (s s' : State) (event : Event) (r : Reply) → next s event r ≡ Some s' → is_done r ≡ false
    → s'.work.fates ≡ s.work.fates ++ lost_rows r s'.work.fates
lost-behind s s' event r h other =
    ended-behind s s' event r h
    ∙ ap (λ n. s.work.fates ++ drop (length s'.work.fates - n) s'.work.fates) (ended-lost r other)

-- ---- what is done

-- the event tells the name of the row that came
record Names (s : State) (event : Event) (t : State) : Type 0 where
  row : FateRow
  told : name_asked event ≡ Some row.name
  behind : t.work.fates ≡ s.work.fates ++ row ∷ []

finish-names : (s : State) (e : ℕ) (ticket : Ticket) (outcome : Outcome) (o : Option HeldEntry)
    → find (is_ticket ticket) (running_on s.work e) ≡ o → let r = finish_of s.work e outcome o in
    is_done (reply.Finish r.0) ≡ true → Names s (event.Finish e ticket outcome) (with_work s r.1)
finish-names s e ticket outcome None found done = absurd cc
finish-names s e ticket outcome (Some pair) found done =
    table1 (λ (r : FinishAnswer × Work). is_done (reply.Finish r.0) ≡ true
    → Names s (event.Finish e ticket outcome) (with_work s r.1)) (must_wait s.work e pair.1) (NotReady, s.work)
    (Done (last_status s.work e pair outcome), after_end s.work e pair outcome)
    (λ u is. absurd cc)
    (λ u is. record {
      row = fate_row (fate.Completed (last_status s.work e pair outcome)) pair;
      told = ap Some
          (sym (eqb-true _ _ (and_parts _ _ (In-find (is_ticket ticket) pair (running_on s.work e) found).1).1));
      behind = refl;
    })
    done

named-each : (s : State) (event : Event) (choice : Choice) → let r = reply_of s event choice in
    is_done r.0 ≡ true → Names s event r.1
named-each s (event.Finish e ticket outcome) choice done =
    finish-names s e ticket outcome (find (is_ticket ticket) (running_on s.work e)) refl done
named-each s (event.Submit client queue portal kind desc) choice done = absurd cc
named-each s (event.Dispatch e) choice done = absurd cc
named-each s (event.Fetch e desc) choice done = absurd cc
named-each s (event.Start e) choice done = absurd cc
named-each s (event.Issue command) choice done = absurd cc
named-each s event.Poll choice done = absurd cc
named-each s (event.WriteQueue queue config) choice done = absurd cc
named-each s (event.WriteGroup group config) choice done = absurd cc
named-each s event.ClearError choice done = absurd cc

done-names : (s s' : State) (event : Event) (r : Reply) → next s event r ≡ Some s' → is_done r ≡ true
    → Names s event s'
done-names s s' event r =
    λ h. next-each (λ r t. is_done r ≡ true → Names s event t) s s' event r
    (λ choice may told. named-each s event choice) h

-- ---- what a step is about

tells-name : (told : Option ℕ) (name : ℕ) → told ≡ Some name → passes (λ other. other == name) told ≡ true
tells-name told name e = ap (passes (λ other. other == name)) e ∙ eq-eqb name name refl

by-event : (step : Step) (fates : List FateRow) (name : ℕ) → name_asked step.event ≡ Some name
    → is_step_about name step fates ≡ true
by-event step fates name e =
    let told = tells-name (name_asked step.event) name e in
    or_left (passes (λ other. other == name) (name_asked step.event)
    || passes (λ other. other == name) (name_answered step.reply))
    (list_any (is_row_of name) (lost_rows step.reply fates))
    (or_left _ (passes (λ other. other == name) (name_answered step.reply)) told)

by-loss : (step : Step) (fates : List FateRow) (row : FateRow) → In row (lost_rows step.reply fates)
    → is_step_about row.name step fates ≡ true
by-loss step fates row i =
    or_right (passes (λ told. told == row.name) (name_asked step.event)
    || passes (λ told. told == row.name) (name_answered step.reply)) _
    (In-any (is_row_of row.name) row (lost_rows step.reply fates) i (eq-eqb row.name row.name refl))

about-row : (s s' : State) (step : Step) (row : FateRow) → next s step.event step.reply ≡ Some s'
    → In row (drop (length s.work.fates) s'.work.fates) → (b : Bool) → is_done step.reply ≡ b
    → is_step_about row.name step s'.work.fates ≡ true
about-row s s' step row h i true done =
    let named = done-names s s' step.event step.reply h done in
    let one : In row (named.row ∷ []) = subst (In row) (past s.work.fates _ s'.work.fates named.behind) i in
    by-event step s'.work.fates row.name
    (named.told ∙ ap (λ (r : FateRow). Some r.name) (⊎_elim (λ e. e) (λ none. absurd none) one))
about-row s s' step row h i false other =
    by-loss step s'.work.fates row
    (subst (In row) (past s.work.fates _ s'.work.fates (lost-behind s s' step.event step.reply h other)) i)

pub ended-about : (s s' : State) (step : Step) (row : FateRow) → next s step.event step.reply ≡ Some s'
    → In row (drop (length s.work.fates) s'.work.fates) → is_step_about row.name step s'.work.fates ≡ true
ended-about s s' step row h i = about-row s s' step row h i (is_done step.reply) refl
