use Rattle.dsa_questions.proofs.calling.begins_with_name.Given as goal
use Rattle.std.proofs.Common.{◌≡◌, drop, map, string_bytes}
use Rattle.dsa_questions.specs.Shown.{begins_with_name}

-- it is left to look through the others
abbrev pub invariant-loop-name : goal.invariant-loop-name
invariant-loop-name l = begins_with_name (map string_bytes (drop l.name-index l.names)) l.text
    ≡ begins_with_name (map string_bytes l.names) l.text
