use Rattle.dsa_tables.proofs.lines.add_entries.Goals as goal
use Rattle.std.proofs.Common.{map, string_bytes}
use Rattle.dsa_tables.specs.Lines.{entry_line}
use Rattle.dsa_tables.proofs.Texts.{number-more}

pub loop-label-preserved : goal.loop-label-preserved
loop-label-preserved c =
    number-more (entry_line (map string_bytes c.args.labels.now) c.args.rows.now) c.loop-label.label _ _ _
    c.loop-label.invariant c.in_ok-add_entry.ensures
