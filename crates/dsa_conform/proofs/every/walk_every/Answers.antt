use Rattle.dsa_conform.proofs.every.walk_every.Goals as goal
use Rattle.std.proofs.Common.{map, string_bytes}
use Rattle.std.proofs.lemmas.Result.{IfOk-weaker}
use Rattle.serde_json.specs.View.{view}
use Rattle.dsa_conform.proofs.Striking.{full_none, full_some, none_differs, one_differs}

pub walk_on-requires-clause-differs : goal.walk_on-requires-clause-differs
walk_on-requires-clause-differs c =
    let told = c.in_ok-verdict.verdict in
    one_differs c.args.head.now.caps c.args.head.now.capacity (map view c.args.head.now.steps.now) told.fault
    c.in-Some.first (string_bytes told.text) c.in_ok-verdict.ensures c.in-Some.ensures

pub returns-in_default : goal.returns-in_default
returns-in_default c =
    let told = c.in_ok-verdict.verdict in
    let steps = map view c.args.head.now.steps.now in
    full_none c.args.head.now.caps c.args.head.now.capacity steps told.fault (string_bytes told.text)
    (none_differs c.args.head.now.caps c.args.head.now.capacity steps told.fault (string_bytes told.text)
    c.in_ok-verdict.ensures c.in_default.ensures)

pub returns : goal.returns
returns c =
    let steps = map view c.args.head.now.steps.now in
    IfOk-weaker c.walk_on.result _ _ (λ verdict is.
    full_some c.args.head.now.caps c.args.head.now.capacity steps verdict.fault c.in-Some.first
    (string_bytes verdict.text) is)
    c.walk_on.ensures
