use Rattle.dsa_tables.proofs.naming.add_rows_of_entries.Given as goal
use Rattle.std.proofs.Common.{◌≡◌, ◌++◌, flat_map}
use Rattle.dsa_base.specs.Numbers.{numbers_below}
use Rattle.dsa_tables.specs.declared.parts.Part.TheVariants.{Entry}
use Rattle.dsa_tables.specs.Naming.{rows_of_part}

abbrev pub invariant-loop-number : goal.invariant-loop-number
invariant-loop-number l = l.ordered.items
    ≡ l.fn.ordered.items ++ flat_map (λ number. rows_of_part l.rows (Entry number)) (numbers_below l.number)
