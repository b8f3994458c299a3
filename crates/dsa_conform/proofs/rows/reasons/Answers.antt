use Rattle.dsa_conform.proofs.rows.reasons.Goals as goal
use Rattle.dsa_book.specs.declared.event.Event.TheVariants as event
use Rattle.std.proofs.Common.{◌≡◌, List, [], ◌∷◌, codes, refl}
use Rattle.std.specs.{Prelude.{take}, Fmt.{digits}}
use Rattle.dsa_scenario.specs.declared.{actions.Action.TheVariants.{Ask}, run.Record.{Record}}
use Rattle.dsa_scenario.specs.{Steps.{standing}, Run.{event_of, AreOf}, Worked.{records_of_a_run, smallest_caps}}
use Rattle.dsa_explain_lines.specs.Parts.{part_of}
use Rattle.dsa_conform.proofs.RowRuns.{not_answered_so}

pub returns-clause-after_a_run : goal.returns-clause-after_a_run
unfolding digits
returns-clause-after_a_run c = record {
  records = take 7 records_of_a_run;
  run = record {
    of_actions = (refl, (refl, (refl, (refl, (refl, (refl, (refl, tt)))))));
    run = refl;
    shown = (refl, (refl, (refl, (refl, (refl, (refl, (refl, tt)))))));
  };
  is = refl;
}

pub returns-clause-at_first : goal.returns-clause-at_first
unfolding digits
returns-clause-at_first c = record { records = []; run = record { of_actions = tt; run = refl; shown = tt }; is = refl }

-- of no step there is no record
first_reason : (records : List Record) → AreOf [] [] records
    → codes ": no command" ≡ part_of (standing smallest_caps 9 records) (event_of records (Ask event.Poll)) → ⊥
first_reason [] of_none is = absurd cc
first_reason (entry ∷ entries) of_none is = of_none

pub returns-clause-another : goal.returns-clause-another
returns-clause-another c is = first_reason is.records is.run.of_actions is.is

pub returns-clause-no_run : goal.returns-clause-no_run
returns-clause-no_run c is = not_answered_so is.records is.run.of_actions is.run.shown
