use Rattle.dsa_cli.proofs.options.with_option.Goals as goal
use Rattle.std.proofs.{Common.{◌∙◌, ◌||◌, ap₂}, lemmas.Result.{IfOk-weaker}}

pub returns-clause-app : goal.returns-clause-app
returns-clause-app c = IfOk-weaker c.arg.result _ _ (λ command h. h.shape c.requires.local) c.arg.ensures

pub returns-clause-local : goal.returns-clause-local
returns-clause-local c =
    IfOk-weaker c.arg.result _ _ (λ command h. h.globals ∙ ap₂ (λ x y. x || y) c.requires.no_globals c.requires.local)
    c.arg.ensures
