use Rattle.dsa_check.proofs.reasons.caps_reasons.Goals as goal
use Rattle.std.proofs.Common.{false}
use Rattle.serde_json.specs.View.{view}
use Rattle.dsa_check.specs.{Reasons.{AreReasonsOf}, Tables.{device_rows}}
use Rattle.dsa_check.proofs.Told.{appended_first}

pub returns : goal.returns
returns c =
    rw (← c.in-Some.ensures)
    (appended_first (AreReasonsOf (view c.in-Some.caps.now) device_rows false) c.new-reasons.result.items _
    c.new-reasons.ensures.items c.in_ok-add_reasons.ensures)
