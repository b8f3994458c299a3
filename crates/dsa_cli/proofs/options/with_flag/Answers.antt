use Rattle.dsa_cli.proofs.options.with_flag.Goals as goal
use Rattle.std.proofs.{Common.{◌∙◌, ap}, lemmas.Result.{IfOk-weaker}}
use Rattle.clap.specs.Simple.{app_of, with_rule}

pub returns-clause-app : goal.returns-clause-app
returns-clause-app c =
    let added = ap (with_rule (app_of c.args.command)) c.flag.ensures.rule in
    IfOk-weaker c.with_option.result _ _ (λ command app. app ∙ added) c.with_option.ensures.app
