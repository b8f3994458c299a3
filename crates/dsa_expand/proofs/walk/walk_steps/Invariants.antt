use Rattle.std.proofs.Common.{ℕ, [], map, take}
use Rattle.serde_json.specs.View.{view}
use Rattle.dsa_regs.specs.declared.Caps.{Caps}
use Rattle.dsa_expand.specs.{Members.{given_as, pairs_of_step}, Walk.{IsWalkedOver}}
use Rattle.dsa_expand.proofs.walk.walk_steps.Given as goal

abbrev pub invariant-loop-i : goal.invariant-loop-i
invariant-loop-i l =
    (caps : Caps) → (capacity : ℕ)
    → IsWalkedOver caps capacity [] l.initial.walk.run.device l.initial.walk.run.tickets.items
    (map given_as l.initial.walk.given.items) (map pairs_of_step l.initial.walk.strict.items)
    → IsWalkedOver caps capacity (take l.i (map view l.steps)) l.walk.run.device l.walk.run.tickets.items
    (map given_as l.walk.given.items) (map pairs_of_step l.walk.strict.items)
