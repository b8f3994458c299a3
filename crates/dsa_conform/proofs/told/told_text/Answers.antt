use Rattle.dsa_conform.proofs.told.told_text.Goals as goal
use Rattle.dsa_conform.proofs.told.told_text.Goals.{in-Some+in_ok-add_step+in_ok-add_seen+in_ok-add_against+in_ok-add_lines, in_default}
use Rattle.std.proofs.Common.{◌∙◌, sym, ap, map, string_bytes}
use Rattle.dsa_conform.specs.{Lines.{difference_text}, Seen.{seen_as}, ToldLines.{fact_told, line_as}}
use Rattle.dsa_conform.proofs.PartC.{text_told, text_of_none}

pub returns : goal.returns
returns c = record {
  lines = c.as_slice-lines.result.now;
  of_told = rw c.as_slice-lines.ensures.value c.in_ok-found.ensures;
  is = elim c.match-first.branch [
    | in-Some+in_ok-add_step+in_ok-add_seen+in_ok-add_against+in_ok-add_lines w ↦
        ap string_bytes w.text-is
        ∙ text_told c.args.number (seen_as c.args.seen.now) w.fact_told.result.now c.as_slice-lines.result.now
        w.in-Some.first.now (string_bytes c.new-text.result) _ _ _ _ (sym w.in-Some.ensures.value)
        c.new-text.ensures.bytes
        w.in_ok-add_step.ensures w.in_ok-add_seen.ensures w.in_ok-add_against.ensures w.in_ok-add_lines.ensures
        ∙ ap (λ f. difference_text c.args.number (seen_as c.args.seen.now) f
        (map line_as c.as_slice-lines.result.now)) w.fact_told.ensures
    | in_default w ↦
        ap string_bytes w.text-is
        ∙ text_of_none c.args.number (seen_as c.args.seen.now) (fact_told c.args.tolds.now) c.as_slice-lines.result.now
        _ w.in_default.ensures.value c.new-text.ensures.bytes
  ];
}
