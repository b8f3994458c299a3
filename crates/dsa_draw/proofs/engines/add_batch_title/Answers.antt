use Rattle.dsa_draw.proofs.engines.add_batch_title.Goals as goal
use Rattle.std.proofs.Common.{◌∙◌, append_assoc}
use Rattle.std.proofs.lemmas.Result.{on_ok_weaker}
use Rattle.dsa_draw.specs.Engines.{batch_title_text}

pub returns : goal.returns
unfolding batch_title_text
returns c = on_ok_weaker c.write.result (λ added. added ∙ simp append_assoc) c.write.ensures.bytes
