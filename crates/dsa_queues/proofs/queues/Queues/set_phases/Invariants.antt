use Rattle.dsa_queues.proofs.queues.Queues.set_phases.Given as goal
use Rattle.std.proofs.Common.{◌≡◌, cond}
use Rattle.dsa_regs.specs.Command.{queues_in}
use Rattle.dsa_book.specs.{State.{phase_at}, Commands.{is_among}}
use Rattle.dsa_base.proofs.Renewing.{renewed}

abbrev pub invariant-loop-queue : goal.invariant-loop-queue
invariant-loop-queue l =
    l.self ≡ record l.fn.self {
      setup = record l.fn.self.setup {
        phases =
            renewed (λ q. cond (is_among (queues_in l.named) q) l.phase (phase_at l.fn.self.setup q)) l.queue
            l.fn.self.setup.phases;
      };
    }
