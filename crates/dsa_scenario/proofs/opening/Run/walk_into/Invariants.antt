use Rattle.dsa_scenario.proofs.opening.Run.walk_into.Given as goal
use Rattle.std.proofs.Common.{◌≡◌, ℕ, List, [], map, take, Some}
use Rattle.serde_json.specs.View.{view}
use Rattle.dsa_regs.specs.declared.Caps.{Caps}
use Rattle.dsa_scenario.specs.{declared.actions.Action.{Action}, Actions.{action_of}, Steps.{IsWalkTo}}
use Rattle.dsa_scenario.specs.Streams.{IsPageOfRest}

abbrev pub invariant-loop-i : goal.invariant-loop-i
invariant-loop-i g l =
    (actions : List Action) × (map action_of (take l.i (map view l.steps)) ≡ map Some actions)
    × ((caps : Caps) → (capacity : ℕ) → (first : g.row.K.Denot)
    → IsWalkTo (IsPageOfRest (g.K.Sink.has_taken l.what first l.initial.sink) (g.D.RenderSteps.is_page l.what)) caps
    capacity [] 0 l.initial.self.device l.initial.self.tickets.items l.initial.page
    → IsWalkTo (IsPageOfRest (g.K.Sink.has_taken l.what first l.sink) (g.D.RenderSteps.is_page l.what)) caps capacity
    actions l.i l.self.device l.self.tickets.items l.page)
