use Rattle.std.proofs.Common.{[], ◌∷◌, ap, sym, ◌∙◌}
use Rattle.dsa_key_bytes.specs.Line.{with_numbers}
use Rattle.dsa_key_bytes.proofs.{Lines.{with_numbers-nil, written-three}, Walked.{drain-none, drain-some}}
use Rattle.dsa_key_bytes.proofs.entries.write_drain.Goals as goal

pub returns-then-not-is_drain : goal.returns-then-not-is_drain
returns-then-not-is_drain g c = λ cell. sym (with_numbers-nil c.args.line.now)
    ∙ ap (with_numbers c.args.line.now) (sym (drain-none c.args.device.now.state (cell, c.args.entry)
    (sym c.is_drain.ensures ∙ c.if-not-is_drain.true)))

pub returns : goal.returns
returns g c = λ cell. written-three c.args.line.now c.write_number.new.self c.write_marks.new.line
    c.write_number-2.new.self (1 ∷ []) _ (0 ∷ []) c.write_number.ensures c.write_marks.ensures c.write_number-2.ensures
    ∙ ap (with_numbers c.args.line.now) (sym (drain-some c.args.device.now.state (cell, c.args.entry)
    (sym c.is_drain.ensures ∙ c.if-not-is_drain.false)))
