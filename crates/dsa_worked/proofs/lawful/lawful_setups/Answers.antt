use Rattle.dsa_worked.proofs.lawful.lawful_setups.Goals as goal
use Rattle.std.proofs.Common.{◌≡◌, ℕ, zero, suc, arith, false, true, refl}
use Rattle.dsa_regs.specs.declared.{Phase.{Phase, TheVariants.{Off, On, Stopping}}}
use Rattle.dsa_book.specs.State.{is_off, is_on, phase_at}
use Rattle.dsa_laws.specs.WellFormed.{HasLawfulSetup}
use Rattle.dsa_worked.specs.Uneven.{small_queue}
use Rattle.dsa_worked.specs.Lawful.{set_up_in}

-- only queue 0 is not Off
not_off : (P : ℕ → Type 0) (device phase : Phase) → P 0 → (queue : ℕ)
    → is_off (phase_at (set_up_in device phase small_queue 64) queue) ≡ false → P queue
not_off P device phase first zero is = first
not_off P device phase first (suc queue) is = absurd (grind (arith, is))

-- of a queue that stops none is On
none_on : (queue : ℕ) → is_on (phase_at (set_up_in Stopping Stopping small_queue 64) queue) ≡ false
none_on zero = refl
none_on (suc queue) = refl

-- the device and the queue are both in a phase that is not Off
in_one_phase : (phase : Phase) → is_off phase ≡ false
    → ((queue : ℕ) → is_on (phase_at (set_up_in phase phase small_queue 64) queue) ≡ true → is_on phase ≡ true)
    → HasLawfulSetup (set_up_in phase phase small_queue 64)
in_one_phase phase not on = record {
  phases = λ queue is. not;
  on = on;
  device = λ is. refl;
  queue = not_off _ phase phase refl;
}

pub returns-clause-on : goal.returns-clause-on
returns-clause-on c = in_one_phase On refl (λ queue is. refl)

pub returns-clause-stopping : goal.returns-clause-stopping
returns-clause-stopping c = in_one_phase Stopping refl (λ queue is. absurd (grind (arith, is, none_on queue)))

-- of a queue that is Off all are
all_off : (queue : ℕ) → is_off (phase_at (set_up_in Off Off small_queue 128) queue) ≡ true
all_off zero = refl
all_off (suc queue) = refl

-- and none is On
not_on : (queue : ℕ) → is_on (phase_at (set_up_in Off Off small_queue 128) queue) ≡ false
not_on zero = refl
not_on (suc queue) = refl

pub returns-clause-off : goal.returns-clause-off
returns-clause-off c = record {
  phases = λ queue is. absurd (grind (arith, is, all_off queue));
  on = λ queue is. absurd (grind (arith, is, not_on queue));
  device = λ is. absurd (grind (arith, is));
  queue = λ queue is. absurd (grind (arith, is, all_off queue));
}

pub returns-clause-only_the_queue : goal.returns-clause-only_the_queue
returns-clause-only_the_queue c is = grind (arith, is.phases 0 refl)

pub returns-clause-queue_on : goal.returns-clause-queue_on
returns-clause-queue_on c is = grind (arith, is.on 0 refl)

pub returns-clause-bad_groups : goal.returns-clause-bad_groups
returns-clause-bad_groups c is = grind (arith, is.device refl)

pub returns-clause-bad_queue : goal.returns-clause-bad_queue
returns-clause-bad_queue c is = grind (arith, is.queue 0 refl)
