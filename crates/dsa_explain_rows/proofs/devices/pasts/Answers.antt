use Rattle.dsa_explain_rows.proofs.devices.pasts.Goals as goal
use Rattle.std.proofs.Common.{[], ◌∷◌, ap, arith, lit≤, refl}
use Rattle.std.specs.Prelude.{Option, get_or, option_map, unwrap_or}
use Rattle.dsa_regs.specs.Config.{zero_group}
use Rattle.dsa_book.specs.{State.{State}, declared.fate.PastFates.TheVariants.{Forgotten}}
use Rattle.dsa_device.{specs.Running.{running_at_first}, proofs.Anew.{past-opening, answered-past, past-anew, replay_of}}
use Rattle.dsa_worked.specs.Uneven.{many_queues}
use Rattle.dsa_explain_rows.specs.Alike.{device_after, first_write}

pub returns-clause-new : goal.returns-clause-new
returns-clause-new c = past-opening many_queues 1048576 refl (lit≤ tt)

pub returns-clause-anew : goal.returns-clause-anew
returns-clause-anew c = past-anew (device_after 5 (first_write ∷ [])) Forgotten
    (answered-past (running_at_first many_queues 5) (device_after 5 (first_write ∷ [])) first_write.event
    first_write.reply (past-opening many_queues 5 refl (lit≤ tt)) refl)

pub returns-clause-replayed : goal.returns-clause-replayed
returns-clause-replayed c is = omega (
  arith,
  ap (λ (o : Option State). unwrap_or (option_map (λ (s : State). s.work.setup.caps.queues) o) 0)
      (replay_of _ is refl).replayed,
)

pub returns-clause-past : goal.returns-clause-past
returns-clause-past c is = omega (
  arith,
  ap (λ (o : Option State). unwrap_or (option_map (λ (s : State). (get_or s.work.setup.groups 0 zero_group).allowed) o) 0)
      (replay_of _ is refl).replayed,
)

pub returns-clause-full_room : goal.returns-clause-full_room
returns-clause-full_room c is = omega (arith, is.full_room refl)
