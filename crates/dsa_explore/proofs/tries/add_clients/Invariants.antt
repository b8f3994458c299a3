use Rattle.dsa_parties.specs.declared.places.Move.TheVariants as move
use Rattle.std.proofs.Common.{◌<◌, ℕ}
use Rattle.dsa_explore.specs.Tries.{KeepsTries, ListsMove}
use Rattle.dsa_explore.proofs.tries.add_clients.Given as goal

-- the moves before were added
abbrev pub invariant-loop-client : goal.invariant-loop-client
invariant-loop-client l = KeepsTries l.fn.tries.items l.tries.items
    × ((k : ℕ) → k < l.client → ListsMove l.plan.script.now l.walked l.tries.items (move.Client k))
