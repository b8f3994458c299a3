use Rattle.std.proofs.Common.{◌≡◌, ℕ, ◌+◌, ◌<◌, ◌≤◌, ◌^◌, List, Some, length}
use Rattle.std.specs.Prelude.{slice_get}
use Rattle.dsa_keys.specs.Parties.{World, Stored}
use Rattle.dsa_parties.specs.Standing.{Standing}
use Rattle.dsa_explore.specs.declared.stored.Try.{Try}
use Rattle.dsa_explore.specs.{Walked.{space_of, IsFirst}, Ways.{IsTellingStep, TellWays}}
use Rattle.dsa_explore.proofs.showing.show.Given as goal

-- no step from the stored worlds before tells the row
abbrev pub invariant-loop-number : goal.invariant-loop-number
invariant-loop-number l = length l.plan.setup.now + l.row.steps ≤ 2 ^ 20
    → (first : World Standing) (table : List (Stored Standing)) (i : ℕ) (x : Stored Standing) (tried : Try)
    → IsFirst l.plan.caps l.plan.script.now l.plan.setup.now first
    → TellWays (space_of l.plan.caps l.plan.script.now) first l.nodes table
    → i < l.number → slice_get table i ≡ Some x → l.row.steps ≡ x.level + 1
    → IsTellingStep (space_of l.plan.caps l.plan.script.now) x.world tried l.row.finding → ⊥
