use Rattle.dsa_exploration.proofs.setup.setup_events.Goals as goal
use Rattle.dsa_exploration.proofs.Gathering.{one_event_more}

pub loop-action-preserved : goal.loop-action-preserved
loop-action-preserved c =
    one_event_more c.args.actions.now c.loop-action.action-index _ _ _ c.loop-action-test.true
    c.in_ok-add_event.ensures c.loop-action.invariant
