use Rattle.dsa_chrome.proofs.rendering.ChromeTraceRenderSteps.add_step.Goals as goal
use Rattle.std.proofs.Common.{◌∙◌, [], ap, sym}
use Rattle.std.proofs.lemmas.Result.{on_ok_weaker}
use Rattle.dsa_scenario.specs.Steps.{visit}
use Rattle.dsa_chrome.specs.Pages.{next_made}
use Rattle.dsa_chrome.proofs.Turns.{made-push}

pub returns : goal.returns
returns g c =
    let number = c.args.step.now.number in
    let entry = c.args.step.now.entry.now in
    let d = c.args.step.now.device.now in
    on_ok_weaker c.add_step.result
    (λ is steps before told h. is ∙ ap (next_made number entry d) h
    ∙ sym (made-push steps (visit number before entry d) (record { text = []; lanes = []; clients = [] })))
    c.add_step.ensures
