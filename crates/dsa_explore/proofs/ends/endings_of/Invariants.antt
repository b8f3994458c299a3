use Rattle.std.proofs.Common.{◌≡◌, List, take}
use Rattle.dsa_keys.specs.Parties.{World, Stored}
use Rattle.dsa_parties.specs.Standing.{Standing}
use Rattle.dsa_explore.specs.{Trying.{IsSearch}, Ends.{AreEndingsOf}, Walked.{space_of, IsFirst}}
use Rattle.dsa_explore.proofs.ends.endings_of.Given as goal

-- the endings of the worlds before
abbrev pub invariant-loop-number : goal.invariant-loop-number
invariant-loop-number l = ((first : World Standing) → (table : List (Stored Standing))
    → IsFirst l.plan.caps l.plan.script.now l.plan.setup.now first
    → IsSearch (space_of l.plan.caps l.plan.script.now) first l.search table
    → l.fn.key.line.capacity ≡ l.search.seen.width
    → AreEndingsOf l.plan.script.now (take l.number table) l.endings.items)
    × (l.key.line.capacity ≡ l.fn.key.line.capacity)
