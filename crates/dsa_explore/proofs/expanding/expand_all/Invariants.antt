use Rattle.std.proofs.Common.{◌≡◌, ◌+◌, ◌-◌, ◌≤◌, ◌^◌, List, length}
use Rattle.dsa_keys.specs.Parties.{World, Stored}
use Rattle.dsa_parties.specs.Standing.{Standing}
use Rattle.dsa_explore.specs.{Trials.{IsAhead}, Trying.{IsSearch}, Walked.{space_of, IsFirst}}
use Rattle.dsa_explore.proofs.expanding.expand_all.Given as goal

-- the worlds before were expanded
abbrev pub invariant-loop-number : goal.invariant-loop-number
invariant-loop-number g l = ((first : World Standing) → (table : List (Stored Standing))
    → IsFirst l.plan.caps l.plan.script.now l.plan.setup.now first
    → l.fn.search.front ≡ 0
    → IsSearch (space_of l.plan.caps l.plan.script.now) first l.fn.search table
    → IsAhead (space_of l.plan.caps l.plan.script.now) first table l.search l.number)
    × ((l.search.seen.most ≡ l.fn.search.seen.most)
    × ((l.search.seen.width ≡ l.fn.search.seen.width)
    × ((l.number ≤ l.search.seen.most)
    × (length l.plan.setup.now + l.fn.search.front ≤ 2 ^ 20
    → length l.plan.setup.now + l.search.front ≤ 2 ^ 20))))

-- so many worlds may come yet
abbrev pub decreases-loop-number : goal.decreases-loop-number
decreases-loop-number g l = l.search.seen.most - l.number
