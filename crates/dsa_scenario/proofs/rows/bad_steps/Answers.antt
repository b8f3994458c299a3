use Rattle.dsa_scenario.proofs.rows.bad_steps.Goals as goal
use Rattle.std.proofs.Common.{◌≡◌, true, false, List, [], ◌∷◌, Some, None, ap, is_some, map, refl}
use Rattle.dsa_book.specs.declared.event.Event.TheVariants.{Poll}
use Rattle.dsa_scenario.specs.declared.actions.Action.{Action, TheVariants.{Ask}}

pub returns-clause-second : goal.returns-clause-second
returns-clause-second c = record { done = Ask Poll ∷ []; before = refl; here = refl }

-- what asks nothing is no action
not_asked : (actions : List Action) → None ∷ [] ≡ map Some actions → ⊥
not_asked [] e = absurd cc
not_asked (action ∷ actions) e = absurd cc

pub returns-clause-no_first : goal.returns-clause-no_first
returns-clause-no_first c is = not_asked is.done is.before

pub returns-clause-a_step : goal.returns-clause-a_step
returns-clause-a_step c is =
    let here : Some (Some (Ask Poll)) ≡ Some None = is.here in
    absurd cc

pub returns-clause-none : goal.returns-clause-none
returns-clause-none c is =
    let here : false ≡ true = ap is_some is.here in
    absurd cc
