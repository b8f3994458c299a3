use Rattle.dsa_questions.proofs.conditions.number_called.Goals as goal
use Rattle.std.proofs.Common.{◌∙◌, Bool, cond, Some, None, ap, sym}
use Rattle.dsa_questions.proofs.Called.{sole}

pub returns-then-is_called : goal.returns-then-is_called
returns-then-is_called c =
    ap (λ (b : Bool). cond b None (Some c.in_ok-first.first)) (sym c.if-is_called.true)
    ∙ sole c.args.labels.now c.behind.result.now c.args.text.now c.in_ok-first.first c.is_called.result
    c.behind.ensures c.in_ok-first.ensures.place c.is_called.ensures

pub returns-else-is_called : goal.returns-else-is_called
returns-else-is_called c =
    ap (λ (b : Bool). cond b None (Some c.in_ok-first.first)) (sym c.if-is_called.false)
    ∙ sole c.args.labels.now c.behind.result.now c.args.text.now c.in_ok-first.first c.is_called.result
    c.behind.ensures c.in_ok-first.ensures.place c.is_called.ensures
