use Rattle.std.proofs.Common.{◌≡◌, ◌+◌, ◌≤◌, List, length}
use Rattle.dsa_keys.specs.Parties.{World, Stored}
use Rattle.dsa_parties.specs.Standing.{Standing}
use Rattle.dsa_explore.specs.{Trials.{AreExpansions}, Trying.{IsSearch}, Walked.{space_of, IsFirst}}
use Rattle.dsa_explore.proofs.trials.expansions_of.Given as goal

-- the expansions of the worlds before are there
abbrev pub invariant-loop-number : goal.invariant-loop-number
invariant-loop-number l = ((first : World Standing) → (table : List (Stored Standing))
    → IsFirst l.plan.caps l.plan.script.now l.plan.setup.now first
    → IsSearch (space_of l.plan.caps l.plan.script.now) first l.search table
    → AreExpansions (space_of l.plan.caps l.plan.script.now) (length l.plan.setup.now) l.width table l.from
    l.expansions.items)
    × ((l.from + length l.expansions.items ≡ l.number) × ((l.number ≤ l.to) × (l.key.line.capacity ≡ l.width)))
