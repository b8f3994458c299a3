use Rattle.dsa_exploration.proofs.setup.setup_events.Given as goal
use Rattle.std.proofs.Common.{◌≡◌, ◌++◌, drop}
use Rattle.std.specs.List.{filter_map}
use Rattle.dsa_exploration.specs.Plan.{setup_event}

-- the events that were added, and those of the other actions
abbrev pub invariant-loop-action : goal.invariant-loop-action
invariant-loop-action l =
    l.events.items ++ filter_map setup_event (drop l.action-index l.actions) ≡ filter_map setup_event l.actions
