use Rattle.dsa_device.proofs.device.Device.run.Goals as goal
use Rattle.std.proofs.{Common.{arith}, lemmas.{Grind.{common_steps}, List.{take_all, take_more}}}
use Rattle.dsa_device.proofs.{Runs.{IsAnswered-push, IsRunOf-push}, Steps.{answered-replay}}

pub loop-event-preserved : goal.loop-event-preserved
loop-event-preserved g c = record {
  answered = IsAnswered-push _ _ _ _ _ _ _ _ _ _ c.loop-event.invariant.answered c.step-reply.ensures
      (take_more _ _ _ c.loop-event-test.true) c.push_reserved.ensures.items;
  ran = λ first. IsRunOf-push _ _ _ _ _ _ _ _ _ _ (c.loop-event.invariant.replay first)
      (c.loop-event.invariant.ran first) c.step-reply.ensures (take_more _ _ _ c.loop-event-test.true)
      c.push_reserved.ensures.items;
  replay = λ first. answered-replay _ _ _ _ (c.loop-event.invariant.replay first) c.step-reply.ensures;
  room = grind (arith, common_steps);
}

pub returns-clause-ok : goal.returns-clause-ok
returns-clause-ok g c = rw (take_all _ _ c.loop-event-test.false) at c.loop-event.invariant.answered

pub returns-clause-run : goal.returns-clause-run
returns-clause-run g c = λ first. rw (take_all _ _ c.loop-event-test.false) at (c.loop-event.invariant.ran first)
