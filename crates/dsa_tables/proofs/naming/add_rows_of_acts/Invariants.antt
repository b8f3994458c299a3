use Rattle.dsa_tables.proofs.naming.add_rows_of_acts.Given as goal
use Rattle.std.proofs.Common.{◌≡◌, ◌++◌, flat_map}
use Rattle.dsa_base.specs.Numbers.{numbers_below}
use Rattle.dsa_tables.specs.Naming.{rows_of_act}

abbrev pub invariant-loop-act : goal.invariant-loop-act
invariant-loop-act l = l.ordered.items
    ≡ l.fn.ordered.items ++ flat_map (rows_of_act l.rows) (numbers_below l.act)
