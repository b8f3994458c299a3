use Rattle.dsa_questions.proofs.conditions.has_keys.Goals as goal
use Rattle.serde_json.specs.View.{view}
use Rattle.dsa_questions.proofs.Called.{keys_counted}

pub returns-in-Some : goal.returns-in-Some
returns-in-Some c =
    keys_counted (view c.args.value.now) c.in-Some.members.now.entries c.args.count c.len.result c.in-Some.ensures
    c.len.ensures.len
