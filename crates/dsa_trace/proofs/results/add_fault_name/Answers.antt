use Rattle.dsa_trace.proofs.results.add_fault_name.Goals as goal
use Rattle.std.proofs.Common.{◌∙◌, ◌++◌, ap, string_bytes}
use Rattle.std.proofs.lemmas.Result.{on_ok_weaker}
use Rattle.std.specs.Prelude.{codes}

pub returns : goal.returns
returns c =
    let before = string_bytes c.args.text.now in
    on_ok_weaker c.add_word.result
    (λ added. added ∙ ap (λ name. before ++ (codes ",\"fault_name\":\"" ++ name)) c.name.ensures)
    c.add_word.ensures
