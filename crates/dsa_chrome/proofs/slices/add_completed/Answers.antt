use Rattle.dsa_chrome.proofs.slices.add_completed.Goals as goal
use Rattle.std.proofs.Common.{List, ℕ, string_bytes}
use Rattle.std.proofs.lemmas.Result.{on_ok_weaker}
use Rattle.std.specs.Prelude.{codes}
use Rattle.dsa_scenario.specs.Lines.{two_digits}
use Rattle.dsa_chrome.proofs.Texts.{then}

pub returns : goal.returns
returns c =
    let before = string_bytes c.args.text.now in
    let word : List ℕ = codes "completed " in
    let digits : List ℕ = two_digits c.args.status in
    on_ok_weaker c.add_status.result
    (then before word digits c.in_ok-add_text.ensures)
    c.add_status.ensures
