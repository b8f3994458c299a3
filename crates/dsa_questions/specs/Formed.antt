-- What values of the program say.
use Rattle.dsa_questions.specs.declared.stating.{Formed.{Formed}, Naming.{Naming}}
use Rattle.dsa_questions.specs.Stating.{FormulaSoFar, Nameable, nameable}
use Rattle.std.specs.Prelude.{map, string_bytes}

-- a formula so far
abbrev pub formed : Formed → FormulaSoFar
formed so_far = record { terms = so_far.terms.items; watches = so_far.watches.items }

-- what questions may name
abbrev pub as_names : Naming → Nameable
as_names naming = nameable naming.caps.now naming.parties.now.script
    (map string_bytes naming.parties.now.labels.items) (map string_bytes naming.parties.now.acts.items)
