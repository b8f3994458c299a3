use Rattle.dsa_scenario.proofs.rows.texts_of_no_run.Goals as goal
use Rattle.std.proofs.Common.{◌≡◌, ◌++◌, ◌∙◌, ◌&&◌, ℕ, Bool, true, false, List, [], ◌∷◌, Some, ap, ap₂, arith, codes}
use Rattle.std.proofs.Common.{flat_map, length, length-append, refl, sym}
use Rattle.std.specs.{Fmt.{digits}, Option.{option_map_or}}
use Rattle.dsa_book.proofs.EqualReplies.{equal-replies}
use Rattle.dsa_book.specs.declared.answer.PollAnswer.TheVariants.{Full}
use Rattle.dsa_book.specs.declared.answer.Reply.TheVariants as reply
use Rattle.dsa_book.specs.declared.event.Event.TheVariants as event
use Rattle.dsa_book.specs.declared.event.Step.{Step}
use Rattle.dsa_book.specs.declared.fate.FateRow.{FateRow}
use Rattle.dsa_book.specs.{Machine.{is_full_reply, is_run, replay, stored_steps}, State.{State}}
use Rattle.dsa_scenario.specs.declared.actions.Action.TheVariants.{Ask}
use Rattle.dsa_scenario.specs.declared.run.Record.{Record, TheVariants.{Stepped, Refused}}
use Rattle.dsa_scenario.specs.Lines.{line_of_text, lines_of_run, record_text, row_text}
use Rattle.dsa_scenario.specs.Run.{AreOf, steps_of_records}
use Rattle.dsa_scenario.specs.Steps.{line_of_step, visits}
use Rattle.dsa_scenario.specs.Worked.{polled, smallest_caps, stepped}

-- a line is not empty
no_line : (text more : List ℕ) → [] ≡ line_of_text text ++ more → ⊥
no_line text more same =
    omega (arith, ap length same, length-append (line_of_text text) more, length-append text (10 ∷ []))

-- nor are lines of a step
some_line : (records : List Record) (fates : List FateRow) → AreOf [] (Ask event.Poll ∷ []) records
    → [] ≡ lines_of_run records fates → ⊥
some_line [] fates are same = are
some_line (entry ∷ records) fates are same =
    let more = flat_map (λ entry. line_of_text (record_text entry)) records in
    let after = flat_map (λ row. line_of_text (row_text row)) fates in
    let line = line_of_text (record_text entry) in
    omega (
      arith,
      ap length same,
      length-append (line ++ more) after,
      length-append line more,
      length-append (record_text entry) (10 ∷ []),
    )

pub returns-clause-no_line : goal.returns-clause-no_line
returns-clause-no_line c is = some_line is.records is.last.work.fates is.events is.rendered

and_true : (b : Bool) → (b && true) ≡ true → b ≡ true
and_true true is = is
and_true false is = is

-- where a history has no room, a poll is answered Full
full : (step : Step) → step.event ≡ event.Poll → is_run smallest_caps 0 (step ∷ []) ≡ true
    → step.reply ≡ reply.Poll Full
full step asked run =
    let answered = and_true (is_full_reply step.event step.reply) run in
    equal-replies step.reply (reply.Poll Full) (ap (λ e. is_full_reply e step.reply) (sym asked) ∙ answered)

-- the text of such a step
text_of_full : (records : List Record) → AreOf [] (Ask event.Poll ∷ []) records
    → is_run smallest_caps 0 (steps_of_records records) ≡ true
    → records ≡ stepped event.Poll (reply.Poll Full) ∷ []
text_of_full [] are run = absurd are
text_of_full (Refused fault ∷ records) are run =
    let asked = are.0 in
    absurd cc
text_of_full (Stepped step ∷ []) are run =
    let asked : step.event ≡ event.Poll = cc in
    ap₂ (λ e r. stepped e r ∷ []) asked (full step asked run)
text_of_full (Stepped step ∷ entry ∷ records) are run = absurd are.1

pub returns-clause-no_answer : goal.returns-clause-no_answer
unfolding digits
returns-clause-no_answer c is =
    let records = text_of_full is.records is.events is.run in
    let last = sym (ap (λ r. replay smallest_caps (stored_steps (steps_of_records r))) records) ∙ is.replayed in
    let fates : [] ≡ is.last.work.fates = ap (λ o. option_map_or (λ (s : State). s.work.fates) o []) last in
    let same : codes "nothing\n" ≡ codes "full\n" = is.rendered ∙ rw (records, ← fates) refl in
    omega (arith, ap length same)

-- without a step there is no fate
no_fates : (records : List Record) (last : State) → AreOf [] [] records
    → replay smallest_caps (stored_steps (steps_of_records records)) ≡ Some last
    → [] ≡ lines_of_run records last.work.fates
no_fates [] last are replayed =
    let fates : [] ≡ last.work.fates = ap (λ o. option_map_or (λ (s : State). s.work.fates) o []) replayed in
    rw (← fates) refl
no_fates (entry ∷ records) last are replayed = absurd are

pub returns-clause-no_fate : goal.returns-clause-no_fate
returns-clause-no_fate c is =
    let none = no_fates is.records is.last is.events is.replayed in
    omega (arith, ap length (none ∙ sym is.rendered))

pub returns-clause-text : goal.returns-clause-text
unfolding digits
returns-clause-text c =
    record { records = polled; last = _; of_actions = (refl, tt); run = refl; replayed = refl; rendered = refl }

-- a step has a line
some_step : (records : List Record) → AreOf [] (Ask event.Poll ∷ []) records
    → [] ≡ flat_map line_of_step (visits smallest_caps 9 [] records) → ⊥
some_step [] are same = are
some_step (entry ∷ records) are same =
    no_line (record_text entry) (flat_map line_of_step (visits smallest_caps 9 (entry ∷ []) records)) same

pub returns-clause-no_step : goal.returns-clause-no_step
returns-clause-no_step c is = some_step is.records is.of_actions is.rendered

pub returns-clause-no_such_step : goal.returns-clause-no_such_step
unfolding digits
returns-clause-no_such_step c is =
    let records = text_of_full is.records is.of_actions is.run in
    let same : codes "nothing\n" ≡ codes "full\n" = is.rendered ∙ rw records refl in
    omega (arith, ap length same)
