use Rattle.std.proofs.Common.{◌≡◌, ◌^◌, length}
use Rattle.dsa_keys.specs.Parties.{World}
use Rattle.dsa_parties.specs.Standing.{Standing}
use Rattle.dsa_explore.specs.{Search.{IsFine}, Walked.{IsFirst, space_of}, Walking.{IsAtWalk}}
use Rattle.dsa_explore.proofs.walking.walk_at_random.Given as goal

-- the walk has so many steps, and the device stands there
abbrev pub invariant-loop : goal.invariant-loop
invariant-loop l = ((first : World Standing)
    → IsFirst l.plan.caps l.plan.script.now l.plan.setup.now first
    → IsFine (space_of l.plan.caps l.plan.script.now) first
    → IsAtWalk (space_of l.plan.caps l.plan.script.now) first l.walk.way.items l.walk.rows.items l.walked.value)
    × ((length l.walk.way.items ≡ l.counter)
    × ((l.keys.before.line.capacity ≡ 2 ^ 20) × (l.keys.after.line.capacity ≡ 2 ^ 20)))
