use Rattle.dsa_questions.proofs.verdicts.first_broken.Given as goal
use Rattle.std.proofs.Common.{◌≡◌, drop, map}
use Rattle.dsa_questions.specs.{Told.{as_answer}, Verdicts.{broken_from, first_broken}}

-- none before is broken
abbrev pub invariant-loop-number : goal.invariant-loop-number
invariant-loop-number l =
    broken_from l.number (map as_answer (drop l.number l.answers)) ≡ first_broken (map as_answer l.answers)
