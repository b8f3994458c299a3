use Rattle.dsa_parties.specs.declared.places.Move.TheVariants as move
use Rattle.std.proofs.Common.{◌<◌, ℕ}
use Rattle.dsa_explore.specs.Tries.{KeepsTries, ListsMove}
use Rattle.dsa_explore.proofs.tries.add_administrators.Given as goal

-- the moves before were added
abbrev pub invariant-loop-administrator : goal.invariant-loop-administrator
invariant-loop-administrator l = KeepsTries l.fn.tries.items l.tries.items
    × ((k : ℕ) → k < l.administrator → ListsMove l.plan.script.now l.walked l.tries.items (move.Administrator k))
