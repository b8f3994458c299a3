use Rattle.dsa_draw.proofs.active.add_waits.Given as goal
use Rattle.std.proofs.Common.{◌≡◌, ◌++◌, drop, string_bytes}
use Rattle.dsa_draw.specs.Active.{waits_text}

abbrev pub invariant-loop-wait : goal.invariant-loop-wait
invariant-loop-wait l =
    string_bytes l.text ++ waits_text l.extent (drop l.wait-index l.waits)
    ≡ string_bytes l.initial.text ++ waits_text l.extent l.waits
