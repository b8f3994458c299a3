use Rattle.dsa_count.proofs.waits.add_commands.Given as goal
use Rattle.std.proofs.Common.{◌≡◌, ◌++◌, drop, string_bytes}
use Rattle.dsa_count.specs.Waits.{command_lines}

abbrev pub invariant-loop-number : goal.invariant-loop-number
invariant-loop-number l =
    string_bytes l.text ++ command_lines l.number (drop l.number l.records)
    ≡ string_bytes l.initial.text ++ command_lines 0 l.records
