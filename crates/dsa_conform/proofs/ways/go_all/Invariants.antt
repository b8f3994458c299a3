use Rattle.std.proofs.Common.{length}
use Rattle.dsa_conform.specs.{Seen.{seen_as}, Sights.{steps_counted}}
use Rattle.dsa_conform.proofs.Companions.{AreLeft}
use Rattle.dsa_conform.proofs.ways.go_all.Given as goal

-- those before have gone on
abbrev pub invariant-loop-alloc : goal.invariant-loop-alloc
invariant-loop-alloc l =
    AreLeft l.sights.head.now.caps l.sights.head.now.capacity (steps_counted l.sights)
    (l.action, seen_as l.seen) l.number l.initial.old.items l.old.items l.ways.items l.tolds.items

abbrev pub decreases-loop-alloc : goal.decreases-loop-alloc
decreases-loop-alloc l = length l.old.items
