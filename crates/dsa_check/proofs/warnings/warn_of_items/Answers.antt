use Rattle.dsa_check.proofs.warnings.warn_of_items.Goals as goal
use Rattle.std.proofs.Common.{option_map}
use Rattle.json.specs.Value.{value_view}
use Rattle.dsa_check.{specs.Warnings.{IsPlacedAt}, proofs.{Told.{appends_item}, Warned.{warned_more}}}

pub loop-i-preserved : goal.loop-i-preserved
loop-i-preserved c = record {
  spot = c.in_ok-warn_of_step.ensures.spot;
  all =
      rw c.in_ok-warn_of_step.ensures.all
      (warned_more (option_map (λ v. value_view v.now) c.args.written) c.args.items.now c.loop-i.i c.index-items-i.result
      _ _ c.loop-i-test.true c.index-items-i.is c.loop-i.invariant.all);
  placed =
      appends_item (IsPlacedAt c.args.bytes.now) c.args.items.now c.loop-i.i c.index-items-i.result c.loop-i-test.true
      c.index-items-i.is _ _ _ c.loop-i.invariant.placed c.in_ok-warn_of_step.ensures.placed;
}
