use Rattle.dsa_tables.proofs.naming.add_rows_of_acts.Goals as goal
use Rattle.dsa_tables.specs.Naming.{rows_of_act}
use Rattle.dsa_tables.proofs.Ordered.{numbers-more}

pub loop-act-preserved : goal.loop-act-preserved
loop-act-preserved c =
    numbers-more (rows_of_act c.args.rows.now) c.loop-act.act _ _ _ c.loop-act.invariant
    c.in_ok-add_act_rows.ensures
