use Rattle.dsa_cli.proofs.options.trace_command.Goals as goal
use Rattle.std.proofs.{Common.{◌∙◌, ap₂, refl}, lemmas.Result.{IfOk-weaker}}
use Rattle.clap.specs.Simple.{with_rule}

pub returns-clause-app : goal.returns-clause-app
returns-clause-app c =
    let one = c.in_ok-command.ensures.app ∙ ap₂ with_rule c.plain_command-command.ensures.app refl in
    let two = c.in_ok-command-2.ensures.app ∙ ap₂ with_rule one refl in
    let three = c.in_ok-command-3.ensures.app ∙ ap₂ with_rule two refl in
    let four = c.in_ok-command-4.ensures.app ∙ ap₂ with_rule three refl in
    IfOk-weaker c.with_seen.result _ _ (λ command app. app ∙ ap₂ with_rule four refl) c.with_seen.ensures.app
