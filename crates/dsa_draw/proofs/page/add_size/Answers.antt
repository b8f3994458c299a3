use Rattle.dsa_draw.proofs.page.add_size.Goals as goal
use Rattle.std.proofs.Common.{◌∙◌, append_assoc}
use Rattle.std.proofs.lemmas.Result.{on_ok_weaker}
use Rattle.dsa_draw.specs.Pages.{page_size_text}

pub returns : goal.returns
unfolding page_size_text
returns c = on_ok_weaker c.write.result (λ added. added ∙ simp append_assoc) c.write.ensures.bytes
