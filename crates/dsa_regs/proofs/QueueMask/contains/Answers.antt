use Rattle.dsa_regs.proofs.QueueMask.contains.Goals as goal
use Rattle.std.proofs.{Common.{refl, arith}, lemmas.Grind.{common_steps}}
use Rattle.dsa_regs.proofs.MaskLemmas.{queues_of-names}

pub returns-then-queue-from : goal.returns-then-queue-from
returns-then-queue-from c =
    let names = queues_of-names c.args.self.now.group c.args.self.now.mask c.args.queue 16 refl in
    grind (arith, common_steps, names)

pub returns-else-queue-from : goal.returns-else-queue-from
returns-else-queue-from c =
    let names = queues_of-names c.args.self.now.group c.args.self.now.mask c.args.queue 16 refl in
    grind (arith, common_steps, names)
