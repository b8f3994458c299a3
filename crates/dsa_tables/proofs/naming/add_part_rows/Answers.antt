use Rattle.dsa_tables.proofs.naming.add_part_rows.Goals as goal
use Rattle.dsa_tables.proofs.naming.add_part_rows.Goals.{then-is_in_part+in_ok-push, else-is_in_part}
use Rattle.std.proofs.Common.{◌∙◌, sym}
use Rattle.dsa_explore.specs.declared.found.Found.{Found}
use Rattle.dsa_tables.specs.Lines.{is_in_part}
use Rattle.dsa_tables.proofs.Ordered.{passed-more, passed-not}

pub loop-row-preserved : goal.loop-row-preserved
loop-row-preserved c =
    elim c.if-is_in_part.branch [
      | then-is_in_part+in_ok-push w ↦ rw w.ordered-is
          (passed-more (λ (row : Found). is_in_part c.args.part row.finding) c.args.rows.now c.loop-row.row-index _ _ _ _
          c.loop-row-test.true (sym c.is_in_part.ensures ∙ w.if-is_in_part.true) w.in_ok-push.ensures.items
          c.loop-row.invariant)
      | else-is_in_part w ↦ rw w.ordered-is
          (passed-not (λ (row : Found). is_in_part c.args.part row.finding) c.args.rows.now c.loop-row.row-index _ _ _
          c.loop-row-test.true (sym c.is_in_part.ensures ∙ w.if-is_in_part.false) c.loop-row.invariant)
    ]
