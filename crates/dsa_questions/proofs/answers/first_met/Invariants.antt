use Rattle.std.proofs.Common.{◌≡◌, ℕ, ◌<◌, Some, false}
use Rattle.std.specs.Prelude.{slice_get}
use Rattle.dsa_keys.specs.Parties.{Stored}
use Rattle.dsa_parties.specs.Standing.{Standing}
use Rattle.dsa_formulas.specs.Formulas.{holds_in_world}
use Rattle.dsa_explore.specs.Kept.{KeepsWays}
use Rattle.dsa_questions.proofs.answers.first_met.Given as goal

-- the formula holds in no state before
abbrev pub invariant-loop-number : goal.invariant-loop-number
invariant-loop-number l = (keeps : KeepsWays l.plan.caps l.plan.script.now l.plan.setup.now l.searched)
    → (i : ℕ) (x : Stored Standing) → i < l.number → slice_get keeps.table i ≡ Some x
    → holds_in_world l.plan.script.now l.terms x.world ≡ false
