use Rattle.dsa_tables.proofs.naming.add_rows_of_entries.Goals as goal
use Rattle.dsa_tables.specs.declared.parts.Part.TheVariants.{Entry}
use Rattle.dsa_tables.specs.Naming.{rows_of_part}
use Rattle.dsa_tables.proofs.Ordered.{numbers-more}

pub loop-number-preserved : goal.loop-number-preserved
loop-number-preserved c =
    numbers-more (λ number. rows_of_part c.args.rows.now (Entry number)) c.loop-number.number _ _ _
    c.loop-number.invariant c.in_ok-add_part_rows.ensures
