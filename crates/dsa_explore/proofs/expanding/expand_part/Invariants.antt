use Rattle.std.proofs.Common.{◌≡◌, ◌+◌, ◌≤◌, ◌^◌, ℕ, List, length}
use Rattle.dsa_keys.specs.Parties.{World, Stored}
use Rattle.dsa_parties.specs.Standing.{Standing}
use Rattle.dsa_explore.specs.{Trials.{AreExpansions, IsAhead}, Walked.{space_of}}
use Rattle.dsa_explore.proofs.expanding.expand_part.Given as goal

-- the worlds before were expanded
abbrev pub invariant-loop-expansion : goal.invariant-loop-expansion
invariant-loop-expansion l = ((first : World Standing) → (table : List (Stored Standing)) → (width : ℕ)
    → (a : IsAhead (space_of l.plan.caps l.plan.script.now) first table l.fn.search l.from)
    → l.from + length l.expansions ≤ length a.more
    → AreExpansions (space_of l.plan.caps l.plan.script.now) (length l.plan.setup.now) width a.more l.from l.expansions
    → IsAhead (space_of l.plan.caps l.plan.script.now) first a.more l.search l.number)
    × ((l.number ≡ l.from + l.expansion-index)
    × ((l.search.seen.most ≡ l.fn.search.seen.most)
    × ((l.search.seen.width ≡ l.fn.search.seen.width)
    × (length l.plan.setup.now + l.fn.search.front ≤ 2 ^ 20
    → length l.plan.setup.now + l.search.front ≤ 2 ^ 20))))
