use Rattle.dsa_explain_rows.proofs.alike.states_that_stop.Goals as goal
use Rattle.std.proofs.Common.{◌≡◌, ℕ, zero, suc, arith, refl, true, false}
use Rattle.dsa_regs.specs.declared.Phase.TheVariants.{Off, On, Stopping}
use Rattle.dsa_book.specs.State.{phase_at}
use Rattle.dsa_answers.specs.Stops.{is_stopping}
use Rattle.dsa_explain_rows.specs.Alike.{with_phases_of}

pub returns-clause-by_the_device : goal.returns-clause-by_the_device
returns-clause-by_the_device c = record { device = λ _. refl; queues = λ _ _. refl }

-- only queue 0 has the phase
only_first : (P : ℕ → Type 0) → P 0 → (q : ℕ) → is_stopping (phase_at (with_phases_of On Stopping) q) ≡ true → P q
only_first P first zero stops = first
only_first P first (suc q) stops = absurd (grind (arith, stops))

pub returns-clause-by_the_queue : goal.returns-clause-by_the_queue
returns-clause-by_the_queue c = record {
  device = λ stops. absurd (grind (arith, stops));
  queues = only_first _ refl;
}

pub returns-clause-no_device : goal.returns-clause-no_device
returns-clause-no_device c stops = grind (arith, stops.device refl)

pub returns-clause-no_queue : goal.returns-clause-no_queue
returns-clause-no_queue c stops = grind (arith, stops.queues 0 refl)

-- no queue stops where the only one is Off
none : (q : ℕ) → is_stopping (phase_at (with_phases_of On Off) q) ≡ false
none zero = refl
none (suc q) = refl

pub returns-clause-at_rest : goal.returns-clause-at_rest
returns-clause-at_rest c = record { device = refl; queues = none }

pub returns-clause-queue_stops : goal.returns-clause-queue_stops
returns-clause-queue_stops c rest = grind (arith, rest.queues 0)
