use Rattle.dsa_explore.proofs.worked.findings_of_the_idle.Goals as goal
use Rattle.std.proofs.Common.{◌≡◌, ℕ, [], Some, None, inl, refl}
use Rattle.dsa_explore.specs.declared.found.{Finding.{Finding}}
use Rattle.dsa_explore.specs.Explored.{MayCome}
use Rattle.dsa_explore.specs.WorkedSearch.{asking_nothing, idle_parties, quiet_world}

none-comes : {X : Type 0} (steps : ℕ) (finding : Finding)
    → MayCome idle_parties asking_nothing (quiet_world []) steps finding → X
none-comes steps finding may = let none : None ≡ Some may.after = may.ends in absurd cc

pub returns-clause-none : goal.returns-clause-none
returns-clause-none c = record {
  sound = λ row i. absurd i;
  complete = λ is steps finding may. none-comes steps finding may;
  least = λ is row steps i. absurd i;
}

pub returns-clause-bounded : goal.returns-clause-bounded
returns-clause-bounded c = record {
  sound = λ row i. absurd i;
  complete = λ is steps finding may. none-comes steps finding may;
  least = λ is row steps i. absurd i;
}

pub returns-clause-too_much : goal.returns-clause-too_much
returns-clause-too_much c are = none-comes _ _ (are.sound _ (inl refl))
