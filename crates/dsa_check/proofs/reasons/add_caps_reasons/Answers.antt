use Rattle.dsa_check.proofs.reasons.add_caps_reasons.Goals as goal
use Rattle.std.proofs.Common.{rules, ◌≡◌, true}
use Rattle.std.specs.Prelude.{Some, is_some}
use Rattle.serde_json.specs.{View.{view}, Find.{as_object}}
use Rattle.dsa_check.specs.{Findings.{AreInCaps}, Reasons.{AreReasonsOf}, Tables.{caps_rows}}
use Rattle.dsa_check.proofs.Told.{appends_weaker_to, inside_caps}

pub returns-in-Some : goal.returns-in-Some
returns-in-Some c =
    let caps = view c.in-Some.caps.now in
    let is : is_some (as_object caps) ≡ true = search rules in
    rw (← c.in-Some.ensures)
    (appends_weaker_to c.add_reasons.result (AreReasonsOf caps caps_rows true) (AreInCaps (Some caps))
    (inside_caps caps is) _ _ c.add_reasons.ensures)
