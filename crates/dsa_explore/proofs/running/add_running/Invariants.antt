use Rattle.std.proofs.Common.{◌≡◌, ◌++◌, filter}
use Rattle.dsa_store.specs.Content.{HeldEntry}
use Rattle.dsa_explore.proofs.running.add_running.Given as goal

-- what was added and what is left are all
abbrev pub invariant-loop-cell : goal.invariant-loop-cell
invariant-loop-cell g l = l.found.items ++ filter (λ (pair : HeldEntry). pair.1.running) l.entries
    ≡ l.fn.found.items ++ filter (λ (pair : HeldEntry). pair.1.running) l.fn.entries
