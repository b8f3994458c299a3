use Rattle.std.proofs.Common.{◌+◌, ◌≤◌, ◌^◌, length, take}
use Rattle.dsa_base.specs.Lists.{In}
use Rattle.dsa_keys.specs.Parties.{World}
use Rattle.dsa_parties.specs.Standing.{Standing}
use Rattle.dsa_explore.specs.declared.stored.Try.{Try}
use Rattle.dsa_explore.specs.{Walked.{space_of, IsFirst}, Ways.{IsTellingStep, IsWay}}
use Rattle.dsa_explore.proofs.showing.show_after.Given as goal

-- none of the tries before tells it
abbrev pub invariant-loop-last : goal.invariant-loop-last
invariant-loop-last l = length l.plan.setup.now + (length l.path + 1) ≤ 2 ^ 20
    → (first x : World Standing) (tried : Try) → IsFirst l.plan.caps l.plan.script.now l.plan.setup.now first
    → IsWay (space_of l.plan.caps l.plan.script.now) first l.path x
    → In tried (take l.last-index l.last-items)
    → IsTellingStep (space_of l.plan.caps l.plan.script.now) x tried l.finding → ⊥
