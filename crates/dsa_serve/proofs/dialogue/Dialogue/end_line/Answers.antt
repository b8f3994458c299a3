use Rattle.dsa_serve.proofs.dialogue.Dialogue.end_line.Goals as goal
use Rattle.std.proofs.Common.{◌∙◌}
use Rattle.dsa_serve.proofs.Courses.{line_answered}

pub returns : goal.returns
returns g c line friendly first behind written h =
    rw c.clear.ensures.items
    (line_answered friendly first behind written _ _ c.args.piece.now c.args.self.now.kept.items
    c.args.self.now.session c.answer.new.self c.deref.result.now line
    (λ rest is. c.deref.ensures.value ∙ c.in_ok-keep.ensures rest is) c.in_ok-answer.ensures h)
