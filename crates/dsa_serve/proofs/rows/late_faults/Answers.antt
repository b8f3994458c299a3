use Rattle.dsa_serve.proofs.rows.late_faults.Goals as goal
use Rattle.std.proofs.Common.{inl, inr, refl}
use Rattle.dsa_scenario.specs.declared.faults.ScenarioFault.TheVariants.{BadCaps}
use Rattle.dsa_serve.specs.Dialogue.{IsLate}

pub returns-clause-read : goal.returns-clause-read
returns-clause-read c = inl refl

pub returns-clause-write : goal.returns-clause-write
returns-clause-write c = inr (inl refl)

pub returns-clause-memory : goal.returns-clause-memory
returns-clause-memory c = inr (inr refl)

pub returns-clause-caps : goal.returns-clause-caps
returns-clause-caps c is = not_late is
  where
    not_late : IsLate BadCaps → ⊥
    not_late (inl same) = absurd cc
    not_late (inr (inl same)) = absurd cc
    not_late (inr (inr same)) = absurd cc
