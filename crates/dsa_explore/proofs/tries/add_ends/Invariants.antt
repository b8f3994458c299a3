use Rattle.dsa_parties.specs.declared.places.Move.TheVariants as move
use Rattle.std.proofs.Common.{take}
use Rattle.dsa_base.specs.Lists.{In}
use Rattle.dsa_desc.specs.declared.Outcome.{Outcome}
use Rattle.dsa_store.specs.Content.{HeldEntry}
use Rattle.dsa_explore.specs.{Rows.{labels_of}, Tries.{KeepsTries, ListsMove}}
use Rattle.dsa_explore.proofs.tries.add_ends.Given as goal

-- the ends of the entries before were added
abbrev pub invariant-loop-pair : goal.invariant-loop-pair
invariant-loop-pair l = KeepsTries l.fn.tries.items l.tries.items
    × ((pair : HeldEntry) → (outcome : Outcome) → In pair (take l.pair-index l.running)
    → ListsMove l.plan.script.now l.walked l.tries.items
    (move.Finish l.engine (labels_of l.walked.labels.items pair.1.name) outcome))
