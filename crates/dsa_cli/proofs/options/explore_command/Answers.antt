use Rattle.dsa_cli.proofs.options.explore_command.Goals as goal
use Rattle.std.proofs.{Common.{◌∙◌, ap₂, refl}, lemmas.Result.{IfOk-weaker}}
use Rattle.clap.specs.Simple.{with_rule}

pub returns-clause-app : goal.returns-clause-app
returns-clause-app c =
    let none = c.plain_command-command.ensures.app in
    let one = c.in_ok-command.ensures.app ∙ ap₂ with_rule none refl in
    let two = c.in_ok-command-2.ensures.app ∙ ap₂ with_rule one refl in
    let three = c.in_ok-command-3.ensures.app ∙ ap₂ with_rule two c.text_option.ensures.rule in
    let four = c.in_ok-command-4.ensures.app ∙ ap₂ with_rule three c.number_option-walks.ensures.rule in
    let five = c.in_ok-command-5.ensures.app ∙ ap₂ with_rule four c.number_option-seed.ensures.rule in
    let six = c.in_ok-command-6.ensures.app ∙ ap₂ with_rule five c.text_option-2.ensures.rule in
    IfOk-weaker c.with_flag.result _ _ (λ command app. app ∙ ap₂ with_rule six refl) c.with_flag.ensures.app
