use Rattle.dsa_check.proofs.judge.judge_items.Goals as goal
use Rattle.std.proofs.Common.{sym, subst, arith}
use Rattle.serde_json.specs.View.{view}
use Rattle.dsa_check.specs.{Findings.{TellsStep}, Places.{IsShallow}}
use Rattle.dsa_check.proofs.{Steps.{step_more}, Told.{appends_item}}
use Rattle.std.proofs.lemmas.Grind.{common_steps}

pub judge_item-requires : goal.judge_item-requires
judge_item-requires c =
    let item = c.index-items-i.result in
    record {
      spot = c.loop-i.invariant.spot;
      shallow =
          subst (λ v. IsShallow (view v)) (sym c.index-items-i.is) (c.requires c.loop-i.i item c.loop-i-test.true);
    }

pub loop-i-preserved : goal.loop-i-preserved
loop-i-preserved c = record {
  spot = c.in_ok-judge_item.ensures.spot;
  faults =
      rw c.in_ok-judge_item.ensures.faults
      (step_more c.args.items.now c.loop-i.i c.index-items-i.result _ _ c.loop-i-test.true c.index-items-i.is
      c.loop-i.invariant.faults);
  told =
      appends_item (TellsStep c.args.bytes.now) c.args.items.now c.loop-i.i c.index-items-i.result c.loop-i-test.true
      c.index-items-i.is _ _ _ c.loop-i.invariant.told c.in_ok-judge_item.ensures.told;
}

pub returns-clause-faults : goal.returns-clause-faults
returns-clause-faults = grind (arith, common_steps)
