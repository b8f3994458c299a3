use Rattle.dsa_plans.proofs.plans.all_engines.Given as goal
use Rattle.std.proofs.Common.{◌≡◌}
use Rattle.dsa_base.specs.Numbers.{numbers_below}

abbrev pub invariant-loop-engine : goal.invariant-loop-engine
invariant-loop-engine l = l.engines.items ≡ numbers_below l.engine
