use Rattle.std.proofs.Common.{ℕ, take}
use Rattle.dsa_base.specs.Lists.{In}
use Rattle.dsa_explore.specs.Tries.{KeepsTries, ListsEngine}
use Rattle.dsa_explore.proofs.tries.add_engines.Given as goal

-- the engines before were added
abbrev pub invariant-loop-engine : goal.invariant-loop-engine
invariant-loop-engine l = KeepsTries l.fn.tries.items l.tries.items
    × ((e : ℕ) → In e (take l.engine-index l.engines)
    → ListsEngine l.plan.script.now l.walked l.tries.items e)
