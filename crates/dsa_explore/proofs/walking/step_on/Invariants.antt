use Rattle.std.proofs.Common.{◌≡◌, ◌⊎◌, ◌+◌, ◌^◌, true, length}
use Rattle.dsa_base.specs.Lists.{In}
use Rattle.dsa_keys.specs.Parties.{World}
use Rattle.dsa_parties.specs.Standing.{Standing}
use Rattle.dsa_explore.specs.declared.stored.Try.{Try}
use Rattle.dsa_explore.specs.{Ready.{HasLabels}, Trying.{IsThere}, Walked.{IsFirst, space_of, world_of}}
use Rattle.dsa_explore.specs.Walking.{HasComeTo, IsAtWalk, IsTriedBack}
use Rattle.dsa_explore.proofs.walking.step_on.Given as goal

-- the walk stands where it did, the device too if it is said to, and what is not left was tried
abbrev pub invariant-loop-turn : goal.invariant-loop-turn
invariant-loop-turn l = ((first : World Standing)
    → IsFirst l.plan.caps l.plan.script.now l.plan.setup.now first
    → (at : IsAtWalk (space_of l.plan.caps l.plan.script.now) first l.fn.walk.way.items l.fn.walk.rows.items
    l.fn.at_first.value)
    → HasComeTo (space_of l.plan.caps l.plan.script.now) first l.fn.walk.way.items l.walk.rows.items at.last
    × ((l.is_there ≡ true → IsThere (space_of l.plan.caps l.plan.script.now)
    (record { level = length l.fn.walk.way.items; world = at.last }) (world_of l.walked.value)
    × HasLabels l.walked.value)
    × ((t : Try) → In t l.fn.tries.items → In t l.left.items
    ⊎ IsTriedBack (space_of l.plan.caps l.plan.script.now) l.walk.rows.items (length l.fn.walk.way.items) at.last t)))
    × ((l.walk.way.items ≡ l.fn.walk.way.items)
    × ((length l.left.items + l.turn ≡ length l.fn.tries.items)
    × ((l.steps ≡ length l.fn.walk.way.items + 1)
    × ((l.keys.before.line.capacity ≡ 2 ^ 20) × (l.keys.after.line.capacity ≡ 2 ^ 20)))))
