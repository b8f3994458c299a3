use Rattle.std.proofs.Common.{[], ◌∷◌, take, get_or, ap, sym, ◌∙◌, arith}
use Rattle.std.proofs.lemmas.List.{take_more}
use Rattle.dsa_key_bytes.specs.Line.{with_numbers}
use Rattle.dsa_key_bytes.proofs.Lines.{with_numbers-nil, written-more}
use Rattle.dsa_key_bytes.proofs.line.Line.write_numbers.Goals as goal

pub loop-number-init : goal.loop-number-init
loop-number-init c = sym (with_numbers-nil c.args.self.now)

pub loop-number-preserved : goal.loop-number-preserved
loop-number-preserved c =
    written-more c.args.self.now c.loop-number.self c.write_number.new.self
    (take c.loop-number.number-index c.args.numbers.now) (get_or c.args.numbers.now c.loop-number.number-index 0 ∷ [])
    c.loop-number.invariant c.write_number.ensures
    ∙ ap (with_numbers c.args.self.now) (sym (take_more c.args.numbers.now c.loop-number.number-index 0 (omega arith)))
