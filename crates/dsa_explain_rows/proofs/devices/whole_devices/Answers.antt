use Rattle.dsa_explain_rows.proofs.devices.whole_devices.Goals as goal
use Rattle.std.proofs.Common.{[], ap, arith, lit≤, refl}
use Rattle.std.specs.Prelude.{get_or, replicate}
use Rattle.dsa_store.specs.Content.{held_count}
use Rattle.dsa_book.specs.State.{opening_setup}
use Rattle.dsa_worked.{proofs.Parts.{in_step_while_off}, specs.Uneven.{many_queues}}
use Rattle.dsa_engines.specs.Engines.{engines_at_first}
use Rattle.dsa_device.specs.Running.{HasRows, IsWholeDevice, running_at_first}
use Rattle.dsa_device.proofs.Anew.{past-opening}

is_whole : IsWholeDevice 23 (engines_at_first many_queues) (running_at_first many_queues 5)
unfolding held_count
is_whole = record {
  past = past-opening many_queues 5 refl (lit≤ tt);
  in_step = in_step_while_off (opening_setup many_queues) (engines_at_first many_queues) 23 (replicate 9 []) refl
      (record { lawful = refl; configs = refl; phases = refl; groups = refl }) (record { lists = refl; cells = refl })
      refl refl;
}

enough : HasRows 5 (running_at_first many_queues 5)
unfolding held_count
enough = lit≤ tt

pub returns-clause-whole : goal.returns-clause-whole
returns-clause-whole c = is_whole

pub returns-clause-running : goal.returns-clause-running
returns-clause-running c = record {
  whole = is_whole;
  rows_fit = enough;
  counted = record { counts = refl; named = refl };
  awaiting = record {
    counts = λ active is. absurd cc;
    mark = λ active is. absurd cc;
  };
}

pub returns-clause-miscounted : goal.returns-clause-miscounted
returns-clause-miscounted c is = omega (arith, ap (λ held. get_or held 0 0) is.counted.counts)

pub returns-clause-mark : goal.returns-clause-mark
returns-clause-mark c is = omega (arith, is.awaiting.mark _ refl)

short : HasRows 4 (running_at_first many_queues 5) → ⊥
unfolding held_count
short fit = omega (arith, fit)

pub returns-clause-no_row : goal.returns-clause-no_row
returns-clause-no_row c is = short is.rows_fit
