use Rattle.std.proofs.Common.{◌<◌, ℕ}
use Rattle.dsa_conform.specs.Ways.{IsEngineAlike}
use Rattle.dsa_conform.proofs.alike.same_engines.Given as goal

-- those before are alike
abbrev pub invariant-loop-engine : goal.invariant-loop-engine
invariant-loop-engine g l =
    (engine : ℕ) → engine < l.engine → IsEngineAlike l.first.state.work l.second.state.work engine
