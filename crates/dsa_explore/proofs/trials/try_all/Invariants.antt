use Rattle.std.proofs.Common.{◌≡◌, List, Some, true, take}
use Rattle.std.specs.Prelude.{slice_get}
use Rattle.dsa_keys.specs.Parties.{World, Stored}
use Rattle.dsa_parties.specs.Standing.{Standing}
use Rattle.dsa_explore.specs.{Ready.{HasLabels}, Trying.{IsSearch, IsThere}, Walked.{space_of, world_of, IsFirst}}
use Rattle.dsa_explore.proofs.Tried.{AreSoFar}
use Rattle.dsa_explore.proofs.trials.try_all.Given as goal

-- those before were tried, and the device stands there if it is said to
abbrev pub invariant-loop-tried : goal.invariant-loop-tried
invariant-loop-tried l = ((first : World Standing) → (table : List (Stored Standing)) → (x : Stored Standing)
    → IsFirst l.plan.caps l.plan.script.now l.plan.setup.now first
    → IsSearch (space_of l.plan.caps l.plan.script.now) first l.search table
    → slice_get table l.number ≡ Some x
    → IsThere (space_of l.plan.caps l.plan.script.now) x (world_of l.fn.at_first.value)
    → HasLabels l.fn.at_first.value
    → AreSoFar (space_of l.plan.caps l.plan.script.now) x (take l.tried-index l.tries) l.trials.items
    × ((l.is_there ≡ true → IsThere (space_of l.plan.caps l.plan.script.now) x (world_of l.walked.value))
    × (l.is_there ≡ true → HasLabels l.walked.value)))
    × (l.key.line.capacity ≡ l.fn.key.line.capacity)
