use Rattle.std.proofs.Common.{◌≡◌, ◌∷◌, take, length}
use Rattle.std.specs.List.{flat_map}
use Rattle.dsa_key_bytes.specs.{Line.{with_numbers}, KeyBytes.{numbers_of_group}}
use Rattle.dsa_key_bytes.proofs.parts.write_groups.Given as goal

abbrev pub invariant-loop-config : goal.invariant-loop-config
invariant-loop-config l =
    l.line ≡ with_numbers l.fn.line (length l.configs ∷ flat_map numbers_of_group (take l.config-index l.configs))
