use Rattle.std.proofs.Common.{◌≡◌, ◌++◌, string_bytes, flat_map, take}
use Rattle.dsa_conform.specs.Quoted.{unit_text}
use Rattle.dsa_conform.proofs.quoted.add_units.Given as goal

abbrev pub invariant-loop-unit : goal.invariant-loop-unit
invariant-loop-unit l =
    string_bytes l.text ≡ string_bytes l.initial.text ++ flat_map unit_text (take l.unit-index l.unit-items)
