use Rattle.dsa_tables.proofs.lines.add_acts.Goals as goal
use Rattle.std.proofs.Common.{map, string_bytes}
use Rattle.dsa_tables.specs.Lines.{act_line}
use Rattle.dsa_tables.proofs.Texts.{number-more}

pub loop-act-preserved : goal.loop-act-preserved
loop-act-preserved c =
    number-more
    (act_line (map string_bytes c.args.labels.now) (map string_bytes c.args.acts.now) c.args.rows.now)
    c.loop-act.act _ _ _ c.loop-act.invariant c.in_ok-add_act.ensures
