use Rattle.dsa_draw.proofs.phases.add_line.Goals as goal
use Rattle.std.proofs.Common.{◌∙◌, append_assoc}
use Rattle.std.proofs.lemmas.Result.{on_ok_weaker}
use Rattle.dsa_draw.specs.Bands.{phase_line_text}

pub returns : goal.returns
unfolding phase_line_text
returns c =
    on_ok_weaker c.write.result
    (λ added. added ∙ rw (c.column_left-x.ensures, c.columns_wide-wide.ensures) (simp append_assoc))
    c.write.ensures.bytes
