use Rattle.dsa_check.proofs.sources.add_shown.Given as goal
use Rattle.std.proofs.Common.{◌≡◌, ◌++◌, string_bytes, take, map}
use Rattle.dsa_check.specs.Sources.{shown_byte}

abbrev pub invariant-loop-byte : goal.invariant-loop-byte
invariant-loop-byte l =
    string_bytes l.text ≡ string_bytes l.initial.text ++ map shown_byte (take l.byte-index l.bytes)
