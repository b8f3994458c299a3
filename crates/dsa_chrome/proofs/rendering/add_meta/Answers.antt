use Rattle.dsa_chrome.proofs.rendering.add_meta.Goals as goal
use Rattle.std.proofs.Common.{◌∙◌, append_assoc}
use Rattle.std.proofs.lemmas.Result.{on_ok_weaker}
use Rattle.dsa_chrome.specs.Traces.{meta_text}

pub returns : goal.returns
unfolding meta_text
returns c = on_ok_weaker c.write.result (λ added. added ∙ simp append_assoc) c.write.ensures.bytes
