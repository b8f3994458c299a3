use Rattle.dsa_check.proofs.judge.judge_value.Goals as goal
use Rattle.std.proofs.Common.{arith}
use Rattle.serde_json.specs.View.{view}
use Rattle.dsa_check.{specs.Findings.{TellsStep, TellsWhy}, proofs.Told.{appends_items}}
use Rattle.std.proofs.lemmas.Grind.{common_steps}

pub returns-clause-told : goal.returns-clause-told
returns-clause-told c =
    let bytes = c.args.bytes.now in
    let d = view c.args.document.now in
    let head = c.in_ok-judge_head.ensures.told bytes in
    let steps = appends_items (TellsStep bytes) (TellsWhy bytes d) d _ c.items_of.ensures.items (λ finding i h. h) _ _
    c.in_ok-judge_items.ensures.told in
    let caps = c.in_ok-judge_caps.ensures.told bytes in
    let capacity = c.in_ok-judge_capacity.ensures.told bytes in
    grind (arith, common_steps)
