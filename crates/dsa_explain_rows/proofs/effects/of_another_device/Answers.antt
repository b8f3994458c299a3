use Rattle.dsa_explain_rows.proofs.effects.of_another_device.Goals as goal
use Rattle.std.proofs.Common.{◌≡◌, ap, arith, refl}
use Rattle.std.specs.Prelude.{is_some}
use Rattle.dsa_book.specs.State.{State}
use Rattle.dsa_explain_rows.specs.Effects.{another_device}

-- a state with two queues is not the other device's
others : (s : State) → s.work.setup.caps.queues ≡ 2 → s ≡ another_device → ⊥
others s two same = omega (arith, two, ap (λ (s : State). s.work.setup.caps.queues) same)

pub returns-clause-accepted : goal.returns-clause-accepted
returns-clause-accepted c is = others _ refl is.after

pub returns-clause-taken : goal.returns-clause-taken
returns-clause-taken c is = others _ refl is.after

pub returns-clause-fetched : goal.returns-clause-fetched
returns-clause-fetched c is = others _ refl is.after

pub returns-clause-started : goal.returns-clause-started
returns-clause-started c is = others _ refl is.after

pub returns-clause-abandoned : goal.returns-clause-abandoned
returns-clause-abandoned c is = others _ refl is.after

pub returns-clause-ended : goal.returns-clause-ended
returns-clause-ended c is = others _ refl is.after

pub returns-clause-queue_written : goal.returns-clause-queue_written
returns-clause-queue_written c is = others _ refl is.after

pub returns-clause-group_written : goal.returns-clause-group_written
returns-clause-group_written c is = others _ refl is.after

pub returns-clause-noted : goal.returns-clause-noted
returns-clause-noted c is = others _ refl is.after

pub returns-clause-cleared : goal.returns-clause-cleared
returns-clause-cleared c is = others _ refl is.after

pub returns-clause-queue_enabled : goal.returns-clause-queue_enabled
returns-clause-queue_enabled c is = others _ refl is.after

pub returns-clause-device_enabled : goal.returns-clause-device_enabled
returns-clause-device_enabled c is = others _ refl is.after

pub returns-clause-waiting : goal.returns-clause-waiting
returns-clause-waiting c is = grind (arith, ap (λ (s : State). is_some s.active) is.after)

pub returns-clause-over : goal.returns-clause-over
returns-clause-over c is = grind (arith, ap (λ (s : State). is_some s.active) is.after)

pub returns-clause-aborted : goal.returns-clause-aborted
returns-clause-aborted c is = others _ refl is.after

pub returns-clause-reset : goal.returns-clause-reset
returns-clause-reset c is = grind (arith, ap (λ (s : State). is_some s.active) is.after)
