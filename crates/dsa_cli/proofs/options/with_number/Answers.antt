use Rattle.dsa_cli.proofs.options.with_number.Goals as goal
use Rattle.std.proofs.{Common.{◌∙◌, ap, [], ◌∷◌}, lemmas.Result.{IfOk-weaker}}
use Rattle.clap.specs.{Simple.{app_of, with_rule}, Walk.{Rule, rule_of}}

pub returns-clause-app : goal.returns-clause-app
returns-clause-app c =
    let default = ap rule_of c.default_value.ensures
    ∙ ap (λ (r : Rule). record r { defaults = c.args.default.now ∷ [] }) c.number_option-option.ensures.rule in
    IfOk-weaker c.with_option.result _ _ (λ command app. app ∙ ap (with_rule (app_of c.args.command)) default)
    c.with_option.ensures.app
