use Rattle.dsa_tables.proofs.lines.add_part.Given as goal
use denote.Shadow.{shadow}
use denote.Text.{Utf8}
use Rattle.std.proofs.Common.{◌≡◌, ◌++◌, drop, map, string_bytes}
use Rattle.std.specs.Prelude.{filter}
use Rattle.dsa_tables.specs.Lines.{is_in_part, part_text, rows_words}

abbrev pub invariant-loop-row : goal.invariant-loop-row
invariant-loop-row l = record {
  told : string_bytes l.text
      ++ rows_words (map string_bytes l.labels) l.mark l.none
      (filter (λ row. is_in_part l.part row.finding) (drop l.row-index l.rows))
      ≡ string_bytes l.initial.text ++ part_text (map string_bytes l.labels) l.rows l.part;
  mark_is_text : shadow (Utf8 l.mark);
  none_is_text : shadow (Utf8 l.none);
}
