use Rattle.std.proofs.Common.{◌≡◌, ◌+◌, length, map, string_bytes}
use Rattle.serde_json.specs.View.{view}
use Rattle.dsa_conform.specs.{Every.{AreFoundDiffering}, Sights.{bared}}
use Rattle.dsa_conform.proofs.every.walk_on.Given as goal

-- so many steps differ, and of the others what was seen counts
abbrev pub invariant-loop-before : goal.invariant-loop-before
invariant-loop-before l =
    AreFoundDiffering l.head.caps l.head.capacity (map view l.head.steps.now) l.first (l.before + 1)
    (string_bytes l.text) (bared l.left_out.items (map view l.head.steps.now))
    × (length l.left_out.items ≡ length l.head.steps.now)
