use Rattle.dsa_saved.proofs.replay.make_records.Goals as goal
use Rattle.std.proofs.Common.{◌≡◌, ◌*◌, ◌+◌, ◌-◌, ◌++◌, ℕ, take, drop, ap, ◌∙◌, arith}
use Rattle.dsa_saved.proofs.Making.{one-more, take-further}

pub loop-number-preserved : goal.loop-number-preserved
loop-number-preserved g c =
    let n = c.loop-number.number in
    let bytes = c.args.records.now in
    let size : 44 * (n + 1) ≡ 44 * n + (44 * n + 44 - 44 * n) = omega arith in
    let more : take (44 * (n + 1)) bytes ≡ take (44 * n) bytes ++ take (44 * n + 44 - 44 * n) (drop (44 * n) bytes) =
    ap (λ (m : ℕ). take m bytes) size ∙ take-further (44 * n) (44 * n + 44 - 44 * n) bytes in
    one-more c.args.device.now c.loop-number.device c.make_record.new.device (take (44 * n) bytes)
    (take (44 * n + 44 - 44 * n) (drop (44 * n) bytes)) (take (44 * (n + 1)) bytes) c.loop-number.invariant
    c.in_ok-make_record.ensures.made more
