use Rattle.dsa_regs.proofs.groups.shared_engine.Given as goal
use Rattle.std.proofs.Common.{◌≡◌, false}
use Rattle.dsa_regs.specs.Config.{is_in_two}

abbrev pub invariant-loop-engine : goal.invariant-loop-engine
invariant-loop-engine l = is_in_two (λ g. g.engines) l.groups l.engine ≡ false
