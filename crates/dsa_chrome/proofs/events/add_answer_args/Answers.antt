use Rattle.dsa_chrome.proofs.events.add_answer_args.Goals as goal
use Rattle.std.proofs.Common.{◌++◌, List, ℕ, string_bytes}
use Rattle.std.proofs.lemmas.Result.{on_ok_weaker}
use Rattle.std.specs.Prelude.{codes}
use Rattle.dsa_scenario.specs.Lines.{record_text}
use Rattle.dsa_chrome.proofs.Texts.{then}

pub returns : goal.returns
returns c =
    let before = string_bytes c.args.text.now in
    let key : List ℕ = codes "\",\"answer\":\"" in
    let answer : List ℕ = record_text c.args.entry.now in
    let end : List ℕ = codes "\"}}" in
    on_ok_weaker c.add_text-2.result
    (then before (key ++ answer) end (then before key answer c.in_ok-add_text.ensures
    c.in_ok-add_answer.ensures))
    c.add_text-2.ensures
