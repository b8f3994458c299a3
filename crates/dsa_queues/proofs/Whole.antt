-- What leaves a set-up whole.
use Rattle.std.proofs.{Common.{ℕ, Bool, cond}, lemmas.List.{length-replicate}}
use Rattle.dsa_base.proofs.NumberLists.{length-each}
use Rattle.dsa_regs.specs.declared.{Phase.{Phase, TheVariants.{Off}}, Scope.{Scope, TheVariants.{Device}}}
use Rattle.dsa_regs.specs.{Command.{queues_in}, Config.{queue_at, zero_group, zero_queue}}
use Rattle.dsa_book.specs.{State.{Setup, phase_at}, Commands.{is_among, reset, size_alone, with_phases}}
use Rattle.dsa_queues.specs.Queues.{IsWholeSetup}

-- phases that some queues come to
pub whole-phases : (test : ℕ → Bool) (phase : Phase) (setup : Setup) → IsWholeSetup setup
    → IsWholeSetup (with_phases test phase setup)
whole-phases test phase setup w = record {
  lawful = w.lawful;
  configs = w.configs;
  phases = length-each (λ q. cond (test q) phase (phase_at setup q)) setup.caps.queues;
  groups = w.groups;
}

-- a reset
pub whole-reset : (scope : Scope) (setup : Setup) → IsWholeSetup setup → IsWholeSetup (reset scope setup)
whole-reset Device setup w = record {
  lawful = w.lawful;
  configs = length-replicate setup.caps.queues zero_queue;
  phases = length-replicate setup.caps.queues Off;
  groups = length-replicate setup.caps.groups zero_group;
}
whole-reset scope setup w =
    let queues = queues_in scope in
    record {
      lawful = w.lawful;
      configs = length-each (λ q. cond (is_among queues q) (size_alone (queue_at setup.configs q))
          (queue_at setup.configs q)) setup.caps.queues;
      phases = (whole-phases (is_among queues) Off setup w).phases;
      groups = w.groups;
    }
