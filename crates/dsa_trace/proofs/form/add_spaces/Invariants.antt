use Rattle.dsa_trace.proofs.form.add_spaces.Given as goal
use Rattle.std.proofs.Common.{◌≡◌, ◌++◌, string_bytes, replicate}

abbrev pub invariant-loop : goal.invariant-loop
invariant-loop l = string_bytes l.text ≡ string_bytes l.initial.text ++ replicate l.counter 32
