use Rattle.dsa_cli.proofs.options.draw_command.Goals as goal
use Rattle.std.proofs.{Common.{◌∙◌, ap₂, refl}, lemmas.Result.{IfOk-weaker}}
use Rattle.clap.specs.Simple.{with_rule}

pub returns-clause-app : goal.returns-clause-app
returns-clause-app c =
    let none = c.plain_command-command.ensures.app in
    let one = c.in_ok-command.ensures.app ∙ ap₂ with_rule none c.text_option.ensures.rule in
    IfOk-weaker c.with_seen.result _ _ (λ command app. app ∙ ap₂ with_rule one refl) c.with_seen.ensures.app
