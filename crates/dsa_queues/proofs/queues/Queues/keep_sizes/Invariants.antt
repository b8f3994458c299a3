use Rattle.dsa_queues.proofs.queues.Queues.keep_sizes.Given as goal
use Rattle.std.proofs.Common.{◌≡◌, cond}
use Rattle.dsa_regs.specs.{Config.{queue_at}, Command.{queues_in}}
use Rattle.dsa_book.specs.Commands.{is_among, size_alone}
use Rattle.dsa_base.proofs.Renewing.{renewed}

abbrev pub invariant-loop-queue : goal.invariant-loop-queue
invariant-loop-queue l =
    l.self ≡ record l.fn.self {
      setup = record l.fn.self.setup {
        configs =
            renewed (λ q. cond (is_among (queues_in l.named) q) (size_alone (queue_at l.fn.self.setup.configs q))
            (queue_at l.fn.self.setup.configs q)) l.queue l.fn.self.setup.configs;
      };
    }
