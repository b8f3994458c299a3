use Rattle.dsa_queues.proofs.queues.Queues.occupancy.Goals as goal
use Rattle.std.proofs.Common.{arith}
use Rattle.std.proofs.lemmas.Bool.{lt-ltb}

-- no queue is longer than it was said to be
pub overflow_cast-result : goal.overflow_cast-result
overflow_cast-result g c =
    let has = lt-ltb c.args.queue c.args.self.now.setup.caps.queues
    (rw (← c.caps.ensures.value) c.if-queue-caps.true) in
    let short = c.requires.short has in
    omega (arith, short, c.len.ensures)
