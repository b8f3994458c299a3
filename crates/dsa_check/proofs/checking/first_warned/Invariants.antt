use Rattle.std.proofs.Common.{◌≡◌, drop, true}
use Rattle.dsa_check.specs.Check.{first_of, faults_warned}
use Rattle.dsa_check.proofs.checking.first_warned.Given as goal

abbrev pub invariant-loop-warning : goal.invariant-loop-warning
invariant-loop-warning l =
    first_of (faults_warned true (drop l.warning-index l.warnings)) ≡ first_of (faults_warned true l.warnings)
