use Rattle.dsa_draw.proofs.drawing.words_of.Goals as goal
use Rattle.std.proofs.Common.{◌∙◌, ◌++◌, ap, append_assoc, codes, string_bytes}
use Rattle.dsa_scenario.specs.Lines.{record_text}
use Rattle.dsa_explain_lines.specs.Lines.{asked_words, shown}
use Rattle.dsa_draw.proofs.Ends.{without_end}

pub returns : goal.returns
returns c =
    let moment = c.args.moment.now in
    let told = asked_words moment.entry ++ codes " -> " ++ record_text moment.entry
    ++ shown (string_bytes moment.reason) moment.entry in
    c.in_ok-push_str-2.ensures.bytes
    ∙ ap (λ l. l ++ c.as_str-2.result.now)
    (without_end c.add_shown.new.text c.pop.new.self told
    (rw (
      c.in_ok-add_shown.ensures,
      c.in_ok-add_answer.ensures,
      c.in_ok-push_str.ensures.bytes,
      c.in_ok-add_asked.ensures,
      c.new-words.ensures.bytes,
      c.as_str.ensures.value,
    ) (simp append_assoc))
    c.pop.ensures.ascii_bytes)
    ∙ rw c.as_str-2.ensures.value (simp append_assoc)
