use Rattle.dsa_draw.proofs.engines.add_sign.Goals as goal
use Rattle.std.proofs.Common.{◌≡◌, ◌+◌, ◌-◌, ◌*◌, ◌∙◌, append_assoc, arith}
use Rattle.std.proofs.lemmas.Result.{on_ok_weaker}
use Rattle.dsa_draw.specs.Engines.{sign_text}

pub returns : goal.returns
unfolding sign_text
returns c =
    let left : c.column_left.result - 6 ≡ 106 + 14 * c.args.end = omega (arith, c.column_left.ensures) in
    on_ok_weaker c.write.result (λ added. added ∙ rw (left, c.strokes-strokes.ensures) (simp append_assoc))
    c.write.ensures.bytes
