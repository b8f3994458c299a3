use Rattle.dsa_tables.proofs.lines.add_part.Goals as goal
use Rattle.dsa_tables.proofs.lines.add_part.Goals.{then-is_in_part+in_ok-add_row, else-is_in_part}
use Rattle.std.proofs.Common.{[], ◌∷◌, ◌∙◌, map, refl, string_bytes, sym}
use Rattle.dsa_explore.specs.declared.found.Found.{Found}
use Rattle.dsa_tables.specs.Lines.{is_in_part}
use Rattle.dsa_tables.proofs.Texts.{row-more, row-passed}

pub loop-row-preserved : goal.loop-row-preserved
unfolding lib.Utf8.encode
loop-row-preserved c =
    elim c.if-is_in_part.branch [
      | then-is_in_part+in_ok-add_row w ↦ rw (w.text-is, w.mark-is, w.none-is) (record {
        told = row-more (map string_bytes c.args.labels.now) (λ (row : Found). is_in_part c.args.part row.finding)
            c.args.rows.now c.loop-row.row-index _ c.loop-row.mark.now c.loop-row.none.now _ _ _ c.loop-row-test.true
            (sym c.is_in_part.ensures ∙ w.if-is_in_part.true) w.in_ok-add_row.ensures c.loop-row.invariant.told;
        mark_is_text = (44 ∷ 32 ∷ [], (refl, refl));
        none_is_text = ([], (refl, refl));
      })
      | else-is_in_part w ↦ rw (w.text-is, w.mark-is, w.none-is) (record {
        told = row-passed (map string_bytes c.args.labels.now) (λ (row : Found). is_in_part c.args.part row.finding)
            c.args.rows.now c.loop-row.row-index _ c.loop-row.mark.now c.loop-row.none.now _ _ c.loop-row-test.true
            (sym c.is_in_part.ensures ∙ w.if-is_in_part.false) c.loop-row.invariant.told;
        mark_is_text = c.loop-row.invariant.mark_is_text;
        none_is_text = c.loop-row.invariant.none_is_text;
      })
    ]
