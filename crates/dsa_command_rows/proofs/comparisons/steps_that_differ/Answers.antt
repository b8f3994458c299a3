use Rattle.dsa_command_rows.proofs.comparisons.steps_that_differ.Goals as goal
use Rattle.std.proofs.Common.{◌≡◌, ℕ, List, [], ◌∷◌, Some, map}
use Rattle.dsa_regs.specs.declared.Caps.{Caps}
use Rattle.dsa_scenario.specs.declared.actions.Action.{Action}
use Rattle.dsa_conform.specs.{Every.{IsFirstDifference}, Seen.{Seen}}

none_at : (caps : Caps) (observed : List (Action × Seen)) (text : List ℕ) → [] ≡ map Some observed
    → ¬ IsFirstDifference caps 9 observed 0 text
none_at caps [] text read first = let at = first.at in absurd cc
none_at caps (one ∷ more) text read first = absurd cc

pub returns : goal.returns
returns c = record { none = λ caps text are. none_at caps are.observed are.first are.read are.differ.0 }
