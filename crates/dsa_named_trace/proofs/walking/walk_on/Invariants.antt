use Rattle.dsa_named_trace.proofs.walking.walk_on.Given as goal
use Rattle.std.proofs.Common.{ℕ, map, string_bytes, take}
use Rattle.serde_json.specs.View.{view}
use Rattle.dsa_regs.specs.declared.Caps.{Caps}
use Rattle.dsa_scenario.specs.Steps.{IsAtFirst, IsWalkTo}
use Rattle.dsa_named.specs.Names.{own_of}
use Rattle.dsa_named_trace.specs.Streams.{HasTakenNamed, IsTakenFrom}

abbrev pub invariant-loop-i : goal.invariant-loop-i
invariant-loop-i g l =
    (caps : Caps) → (capacity : ℕ)
    → IsAtFirst caps capacity l.initial.run.device l.initial.run.tickets.items
    → IsWalkTo (IsTakenFrom l.what.form (map view l.steps)
    (HasTakenNamed g.W.Write.contents l.what.form l.initial.writer l.writer)) caps capacity (take l.i l.actions) l.i
    l.run.device l.run.tickets.items (string_bytes l.page.page, map own_of l.page.names.items)
