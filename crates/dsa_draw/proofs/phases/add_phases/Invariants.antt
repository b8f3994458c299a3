use Rattle.dsa_draw.proofs.phases.add_phases.Given as goal
use Rattle.std.proofs.Common.{◌≡◌, ◌++◌, drop, string_bytes}
use Rattle.dsa_draw.specs.Bands.{stretches_text, phases_text}

abbrev pub invariant-loop-moment : goal.invariant-loop-moment
invariant-loop-moment l =
    string_bytes l.text ++ stretches_text l.holder l.y l.step l.stretch (drop l.moment-index l.moments)
    ≡ string_bytes l.initial.text ++ phases_text l.holder l.y l.moments
