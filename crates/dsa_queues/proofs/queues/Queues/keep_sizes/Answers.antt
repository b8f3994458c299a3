use Rattle.dsa_queues.proofs.queues.Queues.keep_sizes.Goals as goal
use Rattle.std.proofs.{Common.{◌≡◌, ℕ, ◌∙◌, ◌<◌, cond, length, refl, ap, arith}, lemmas.Grind.{common_steps}}
use Rattle.dsa_base.proofs.Renewing.{renewed-next, renewed-all}
use Rattle.dsa_regs.specs.declared.QueueConfig.{QueueConfig}
use Rattle.dsa_regs.specs.{Config.{zero_queue, queue_at}, Command.{queues_in}}
use Rattle.dsa_book.specs.{Commands.{is_among, size_alone}}
use Rattle.dsa_queues.specs.Queues.{Kept}
use Rattle.dsa_queues.proofs.Tables.{renewed-written, renewed-kept}
use Rattle.dsa_queues.proofs.queues.Queues.keep_sizes.Goals.{then-contains, else-contains}

pub loop-queue-preserved : goal.loop-queue-preserved
loop-queue-preserved c =
    let f : ℕ → QueueConfig = λ q. cond (is_among (queues_in c.args.named.now) q)
    (size_alone (queue_at c.args.self.now.setup.configs q)) (queue_at c.args.self.now.setup.configs q) in
    let within : c.loop-queue.queue < length c.args.self.now.setup.configs =
    grind (arith, c.loop-queue-test.true, c.caps-queue-end.ensures) in
    let here = ap (λ (k : Kept). queue_at k.setup.configs c.loop-queue.queue) c.loop-queue.invariant
    ∙ renewed-next f c.loop-queue.queue c.args.self.now.setup.configs zero_queue within in
    elim c.if-contains.branch [
      | then-contains w ↦ rw (
        w.self-is,
        w.set_queue.ensures,
        c.loop-queue.invariant,
        renewed-written f c.loop-queue.queue (record w.default.result { size = w.queue-size.result.size })
            c.args.self.now.setup.configs within (grind (
              arith,
              common_steps,
              here,
              w.if-contains.true,
              c.contains.ensures,
              w.queue-size.ensures,
              w.default.ensures,
            )),
      ) refl
      | else-contains w ↦ rw (
        w.self-is,
        c.loop-queue.invariant,
        renewed-kept f c.loop-queue.queue c.args.self.now.setup.configs zero_queue within
            (grind (arith, common_steps, w.if-contains.false, c.contains.ensures)),
      ) refl
    ]

pub returns : goal.returns
returns c =
    let f : ℕ → QueueConfig = λ q. cond (is_among (queues_in c.args.named.now) q)
    (size_alone (queue_at c.args.self.now.setup.configs q)) (queue_at c.args.self.now.setup.configs q) in
    let size = c.caps-queue-end.ensures.whole.configs in
    let all : c.loop-queue.queue ≡ c.args.self.now.setup.caps.queues =
    grind (arith, c.loop-queue-test.false, c.caps-queue-end.ensures, c.loop-queue.auto) in
    rw (
      c.loop-queue.invariant,
      all,
      renewed-all f c.args.self.now.setup.caps.queues c.args.self.now.setup.configs
          (omega (arith, size)),
    ) refl
