use Rattle.dsa_questions.proofs.calling.has_name.Goals as goal
use Rattle.std.proofs.Common.{◌≡◌, ◌∙◌, sym, true, false}
use Rattle.std.proofs.lemmas.{Bool.Decides.{Decides-eqb}, Slice.Eq.{slice_eq-Decides}}

pub returns-clause-same : goal.returns-clause-same
returns-clause-same c = λ is.
    let text = rw c.new-text.ensures.bytes at c.in_ok-add_question_name.ensures in
    sym text ∙ sym c.as_str.ensures.value ∙ (slice_eq-Decides Decides-eqb _ _ _ c.eq.ensures).0 is

pub returns-clause-other : goal.returns-clause-other
returns-clause-other c = λ is named.
    let text = rw c.new-text.ensures.bytes at c.in_ok-add_question_name.ensures in
    let both : true ≡ false =
    sym ((slice_eq-Decides Decides-eqb _ _ _ c.eq.ensures).1 (c.as_str.ensures.value ∙ text ∙ named)) ∙ is in
    absurd cc
