use Rattle.dsa_check.proofs.sources.add_spaces.Given as goal
use Rattle.std.proofs.Common.{◌≡◌, ◌++◌, string_bytes}
use Rattle.std.specs.Prelude.{replicate}

abbrev pub invariant-loop-turn : goal.invariant-loop-turn
invariant-loop-turn l = string_bytes l.text ≡ string_bytes l.initial.text ++ replicate l._turn 32
