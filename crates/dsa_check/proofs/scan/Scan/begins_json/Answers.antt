use Rattle.dsa_check.proofs.scan.Scan.begins_json.Goals as goal
use Rattle.std.proofs.Common.{◌≡◌, true}
use Rattle.std.proofs.lemmas.Result.{IfOk-weaker}
use Rattle.dsa_check.specs.Places.{AreJson, BeginJson}
use Rattle.dsa_check.proofs.Allowed.{begins_all}

pub returns-in_default-clause-begun : goal.returns-in_default-clause-begun
returns-in_default-clause-begun c =
    let before = c.args.before.now in
    IfOk-weaker c.is_json.result (λ is. is ≡ true → AreJson before) (λ begins. begins ≡ true → BeginJson before)
    (λ is json yes. begins_all before (json yes)) c.is_json.ensures
