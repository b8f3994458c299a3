use Rattle.dsa_conform.proofs.told.has_text.Goals as goal
use Rattle.std.proofs.Common.{◌≡◌, ◌∙◌, arith, sym, subst, true, false, string_bytes}
use Rattle.std.proofs.lemmas.{Bool.Decides.{Decides-eqb}, Slice.Eq.{slice_eq-Decides}, List.{take_all}}
use Rattle.dsa_conform.specs.declared.told.Line.{Line}
use Rattle.dsa_conform.specs.ToldLines.{HasText}
use Rattle.dsa_conform.proofs.{Placing.{in_at}, Listed.{one_more}}

pub loop-line-preserved : goal.loop-line-preserved
loop-line-preserved c h =
    one_more (λ (y : Line). ¬ (string_bytes y.text ≡ c.args.text.now)) c.args.lines.now c.loop-line.line-index
    c.line-item.result c.loop-line-test.true (λ y i same. c.loop-line.invariant (y, i, same))
    (subst (λ (y : Line). ¬ (string_bytes y.text ≡ c.args.text.now)) c.line-item.is
    (λ same.
    let is : true ≡ false =
    sym ((slice_eq-Decides Decides-eqb _ _ _ c.eq.ensures).1 (c.as_str.ensures.value ∙ same)) ∙ c.if-eq.false in
    absurd cc))
    h.0 h.1 h.2

pub returns-clause-none : goal.returns-clause-none
returns-clause-none c is =
    subst (λ l. ¬ HasText l c.args.text.now)
    (take_all c.loop-line.line-index c.args.lines.now (omega (arith, c.loop-line-test.false))) c.loop-line.invariant

pub returns-then-eq-clause-found : goal.returns-then-eq-clause-found
returns-then-eq-clause-found c = λ same. (
  c.line-item.result,
  in_at _ c.loop-line.line-index c.line-item.result c.loop-line-test.true c.line-item.is,
  sym c.as_str.ensures.value ∙ (slice_eq-Decides Decides-eqb _ _ _ c.eq.ensures).0 c.if-eq.true,
)
