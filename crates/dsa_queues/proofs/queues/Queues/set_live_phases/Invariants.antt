use Rattle.dsa_queues.proofs.queues.Queues.set_live_phases.Given as goal
use Rattle.std.proofs.Common.{◌≡◌, cond, not}
use Rattle.dsa_book.specs.State.{phase_at, is_off}
use Rattle.dsa_base.proofs.Renewing.{renewed}

abbrev pub invariant-loop-queue : goal.invariant-loop-queue
invariant-loop-queue l =
    l.self ≡ record l.fn.self {
      setup = record l.fn.self.setup {
        phases =
            renewed (λ q. cond (not (is_off (phase_at l.fn.self.setup q))) l.phase
            (phase_at l.fn.self.setup q)) l.queue l.fn.self.setup.phases;
      };
    }
