use Rattle.dsa_regs.proofs.QueueMask.queues.Goals as goal
use Rattle.std.proofs.Common.{◌≡◌, ◌+◌, ◌*◌, map, filter, ap, ◌∙◌, arith}
use Rattle.dsa_base.specs.Numbers.{has, numbers_below}

-- the loop has gone over all sixteen
pub returns : goal.returns
returns c =
    let all : c.loop-bit.bit ≡ 16 = omega (arith, c.loop-bit-test.false, c.loop-bit.auto.bit-end) in
    let m = c.args.self.now in
    c.loop-bit.invariant.named ∙ ap (λ n. map (λ b. 16 * m.group + b) (filter (has m.mask) (numbers_below n))) all
