use Rattle.dsa_worked.proofs.steady.parts_in_step.Goals as goal
use Rattle.std.proofs.Common.{[], ap, arith, length, refl}
use Rattle.std.specs.Prelude.{replicate}
use Rattle.dsa_regs.specs.declared.Phase.TheVariants.{Off}
use Rattle.dsa_store.specs.Content.{held_count}
use Rattle.dsa_book.specs.State.{opening_setup}
use Rattle.dsa_engines.specs.Engines.{engines_at_first}
use Rattle.dsa_worked.specs.{Lawful.{set_up_in, unlike}, Steady.{kept_by_engines}, Uneven.{small_queue}}
use Rattle.dsa_worked.proofs.Parts.{in_step_while_off}

pub returns-clause-new : goal.returns-clause-new
unfolding held_count
returns-clause-new c =
    in_step_while_off (opening_setup unlike) (engines_at_first unlike) 30 (replicate 5 []) refl
    (record { lawful = refl; configs = refl; phases = refl; groups = refl }) (record { lists = refl; cells = refl })
    refl refl

pub returns-clause-on : goal.returns-clause-on
returns-clause-on c = record {
  queues = record { lawful = refl; configs = refl; phases = refl; groups = refl };
  store = record { lists = refl; cells = refl };
  idle = λ off. absurd (grind (arith, off));
  checked = λ on. refl;
  notes = refl;
  homes = λ on. refl;
  buffers = λ on. refl;
}

pub returns-clause-held : goal.returns-clause-held
unfolding held_count
returns-clause-held c is = omega (arith, is.idle refl)

pub returns-clause-unchecked : goal.returns-clause-unchecked
returns-clause-unchecked c is = grind (arith, is.checked refl)

pub returns-clause-homes : goal.returns-clause-homes
returns-clause-homes c is = omega (arith, ap length (is.homes refl))

pub returns-clause-buffers : goal.returns-clause-buffers
returns-clause-buffers c is = omega (arith, ap (λ buffers. length buffers.used) (is.buffers refl))

pub returns-clause-too_many_places : goal.returns-clause-too_many_places
returns-clause-too_many_places c is = grind (arith, is.checked refl)

pub returns-clause-too_many_while_off : goal.returns-clause-too_many_while_off
unfolding held_count
returns-clause-too_many_while_off c =
    in_step_while_off (set_up_in Off Off (record small_queue { size = 3 }) 64) kept_by_engines 23 (replicate 15 []) refl
    (record { lawful = refl; configs = refl; phases = refl; groups = refl }) (record { lists = refl; cells = refl })
    refl refl
