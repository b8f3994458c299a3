use Rattle.dsa_chrome.proofs.rendering.add_process.Goals as goal
use Rattle.std.proofs.Common.{List, ℕ, string_bytes}
use Rattle.std.proofs.lemmas.Result.{on_ok_weaker}
use Rattle.std.specs.Prelude.{codes}
use Rattle.dsa_chrome.specs.Traces.{meta_text}
use Rattle.dsa_chrome.proofs.Texts.{then}

pub returns : goal.returns
returns c =
    let meta : List ℕ = meta_text (codes "process_name") c.args.process 0 in
    on_ok_weaker c.add_text.result
    (then (string_bytes c.args.text.now) meta c.args.name.now c.in_ok-add_meta.ensures)
    c.add_text.ensures
