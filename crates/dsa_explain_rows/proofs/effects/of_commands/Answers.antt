use Rattle.dsa_explain_rows.proofs.effects.of_commands.Goals as goal
use Rattle.std.proofs.Common.{[], inl, refl}
use Rattle.dsa_regs.specs.declared.Command.TheVariants.{AbortAll, DisableDevice, DrainAll, ResetDevice}
use Rattle.dsa_regs.specs.declared.{Deed.TheVariants.{Abort, Reset}, Phase.TheVariants.{Off}, Scope.TheVariants.{Device}}
use Rattle.dsa_laws.specs.Change.{IsGranted}
use Rattle.dsa_worked.specs.Changes.{none_held}
use Rattle.dsa_explain_rows.proofs.Begun.{disable_begun, drain_begun}
use Rattle.dsa_explain_rows.specs.Effects.{in_second_queue, one_group_in, state_on, state_over}

pub returns-clause-enabled : goal.returns-clause-enabled
returns-clause-enabled c = record {
  queue = 1;
  granted = record { idle = refl; queues = refl; phases = refl; check = refl };
  after = refl;
}

pub returns-clause-disable_waits : goal.returns-clause-disable_waits
returns-clause-disable_waits c = record {
  active = record { command = DisableDevice; mark = 9 };
  begun = disable_begun in_second_queue;
  held = refl;
  after = refl;
}

pub returns-clause-drain_waits : goal.returns-clause-drain_waits
returns-clause-drain_waits c =
    record { active = record { command = DrainAll; mark = 9 }; begun = drain_begun in_second_queue; held = refl; after = refl }

pub returns-clause-disable_is_over : goal.returns-clause-disable_is_over
returns-clause-disable_is_over c = record {
  active = record { command = DisableDevice; mark = 9 };
  begun = inl (disable_begun none_held);
  over = refl;
  after = refl;
}

abort_granted : IsGranted (state_on in_second_queue []) Abort Device
abort_granted = record { idle = refl; queues = refl; phases = refl; check = refl }

pub returns-clause-aborted : goal.returns-clause-aborted
returns-clause-aborted c = record { command = AbortAll; deed = refl; granted = abort_granted; after = refl }

reset_granted : IsGranted (state_on in_second_queue []) Reset Device
reset_granted = record { idle = refl; queues = refl; phases = refl; check = refl }

pub returns-clause-reset : goal.returns-clause-reset
returns-clause-reset c = record { command = ResetDevice; deed = refl; granted = reset_granted; after = refl }

-- a reset may come while the device is Off
granted_while_off : IsGranted (state_over (one_group_in Off []) none_held []) Reset Device
granted_while_off = record { idle = refl; queues = refl; phases = refl; check = refl }

pub returns-clause-reset_while_off : goal.returns-clause-reset_while_off
returns-clause-reset_while_off c = record { command = ResetDevice; deed = refl; granted = granted_while_off; after = refl }
