use Rattle.dsa_conform.proofs.told.place.Goals as goal
use Rattle.std.proofs.Common.{subst, string_bytes}
use Rattle.dsa_conform.specs.ToldLines.{HasText, IsPlaceOf}
use Rattle.dsa_conform.proofs.{Placing.{placed}, PartC.{was_placed}}

pub returns-then-has_text : goal.returns-then-has_text
returns-then-has_text c =
    was_placed c.args.lines.now.items c.args.line _ _ c.as_slice.ensures.value c.as_str.ensures.value
    (c.has_text.ensures.found c.if-has_text.true)

pub returns : goal.returns
returns c =
    let none : ¬ HasText c.args.lines.now.items (string_bytes c.args.line.text) =
    subst (λ l. ¬ HasText l (string_bytes c.args.line.text)) c.as_slice.ensures.value
    (subst (λ t. ¬ HasText c.as_slice.result.now t) c.as_str.ensures.value
    (c.has_text.ensures.none c.if-has_text.false)) in
    placed c.args.lines.now.items _ c.place_of-at.result c.queue_of_line.result c.args.line c.in_ok-insert.ensures.items
    (subst (λ l. IsPlaceOf l c.queue_of_line.result c.place_of-at.result) c.as_slice-2.ensures.value
    c.place_of-at.ensures)
    c.queue_of_line.ensures none
