use Rattle.dsa_draw.proofs.page.add_rect.Goals as goal
use Rattle.std.proofs.Common.{◌∙◌, append_assoc}
use Rattle.std.proofs.lemmas.Result.{on_ok_weaker}
use Rattle.dsa_draw.specs.Pages.{rect_text}

pub returns : goal.returns
unfolding rect_text
returns c =
    on_ok_weaker c.write.result (λ added. added ∙ rw c.column_left-x.ensures (simp append_assoc)) c.write.ensures.bytes
