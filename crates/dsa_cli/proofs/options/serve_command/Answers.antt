use Rattle.dsa_cli.proofs.options.serve_command.Goals as goal
use Rattle.std.proofs.{Common.{◌∙◌, ap₂, refl}, lemmas.Result.{IfOk-weaker}}
use Rattle.clap.specs.Simple.{with_rule}

pub returns-clause-app : goal.returns-clause-app
returns-clause-app c =
    let none = c.plain_command-command.ensures.app in
    IfOk-weaker c.with_flag.result _ _ (λ command app. app ∙ ap₂ with_rule none refl) c.with_flag.ensures.app
