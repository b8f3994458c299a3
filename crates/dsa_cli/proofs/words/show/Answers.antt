use Rattle.dsa_cli.proofs.words.show.Goals as goal
use Rattle.std.proofs.Common.{refl, inl, inr}
use Rattle.dsa_scenario.specs.declared.faults.ScenarioFault.TheVariants.{OutOfMemory, Write}

pub returns-then-eq-clause-failed : goal.returns-then-eq-clause-failed
returns-then-eq-clause-failed g c one = (OutOfMemory, inl (refl, refl), c.tell_reader.ensures.line)

pub returns-in-Err-clause-failed : goal.returns-in-Err-clause-failed
returns-in-Err-clause-failed g c one =
    (Write, inr (refl, c.in-Err.ensures.refused refl), c.tell_reader-in-Err.ensures.line)
