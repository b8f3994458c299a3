use Rattle.dsa_draw.proofs.drawing.add_command_place.Goals as goal
use Rattle.std.proofs.Common.{◌∙◌, append_assoc}
use Rattle.std.proofs.lemmas.Result.{on_ok_weaker}
use Rattle.dsa_draw.specs.Rows.{command_place_text}

pub returns : goal.returns
unfolding command_place_text
returns c =
    on_ok_weaker c.write.result (λ added. added ∙ rw c.column_left.ensures (simp append_assoc)) c.write.ensures.bytes
