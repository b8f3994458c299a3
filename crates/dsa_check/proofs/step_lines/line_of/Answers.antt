use Rattle.dsa_check.proofs.step_lines.line_of.Goals as goal

pub returns-then-is_found-clause-line : goal.returns-then-is_found-clause-line
returns-then-is_found-clause-line c = record {
  at = c.moved_to-spot.result.at;
  end = c.in-Some.field-0.end;
  text = c.in_ok-is_found.ensures.so c.if-is_found.true;
  line_of_text = c.moved_to-spot.ensures.spot.line;
}
