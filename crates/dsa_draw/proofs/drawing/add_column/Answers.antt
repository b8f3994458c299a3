use Rattle.dsa_draw.proofs.drawing.add_column.Goals as goal
use Rattle.std.proofs.Common.{◌∙◌, append_assoc}
use Rattle.std.proofs.lemmas.Result.{on_ok_weaker}

pub returns : goal.returns
returns c =
    on_ok_weaker c.write.result
    (λ added. added
    ∙ rw (
      c.in_ok-add_title.ensures,
      c.in_ok-push_str.ensures.bytes,
      c.in_ok-add_rect.ensures,
      c.from.ensures,
      c.from-2.ensures,
      c.saturating_sub-high.ensures,
    ) (simp append_assoc))
    c.write.ensures.bytes
