use Rattle.dsa_saved.proofs.saving.push_records.Goals as goal
use Rattle.std.proofs.lemmas.List.{take_all}
use Rattle.dsa_saved.proofs.Making.{pushed, pushed-read}

pub loop-step-preserved : goal.loop-step-preserved
loop-step-preserved c = record {
  bytes = pushed c.args.bytes.now.items c.loop-step.bytes.items c.push_record.new.bytes.items c.args.history.now
      c.loop-step.step-index _ c.loop-step-test.true c.loop-step.invariant.bytes c.in_ok-push_record.ensures.bytes;
  read = pushed-read c.args.history.now c.loop-step.step-index _ c.loop-step-test.true c.loop-step.invariant.read
      c.push_record.ensures.read;
}

pub returns-clause-read : goal.returns-clause-read
returns-clause-read c = rw (take_all _ _ c.loop-step-test.false) at c.loop-step.invariant.read
