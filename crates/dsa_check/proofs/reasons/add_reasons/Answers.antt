use Rattle.dsa_check.proofs.reasons.add_reasons.Goals as goal
use Rattle.serde_json.specs.View.{view}
use Rattle.std.proofs.Common.{map, arith}
use Rattle.dsa_scenario.specs.Fields.{row_of_field}
use Rattle.dsa_check.proofs.Told.{reasons_more}
use Rattle.std.proofs.lemmas.Grind.{common_steps}

pub loop-field-preserved : goal.loop-field-preserved
loop-field-preserved c =
    reasons_more (view c.args.object.now) (map row_of_field c.args.fields.now) c.args.in_caps c.args.fields.now
    c.loop-field.field-index _ c.args.reasons.now.items c.loop-field.reasons.items c.add_reason.new.reasons.items
    c.loop-field-test.true c.loop-field.invariant c.in_ok-add_reason.ensures

pub returns : goal.returns
returns = grind (arith, common_steps)
