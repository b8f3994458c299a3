use Rattle.dsa_questions.proofs.laws.states_are_answered_as_rows_are.Goals as goal
use Rattle.std.proofs.Common.{◌≡◌, ◌∙◌, ℕ, Option, Some, None, sym, subst, arith}
use Rattle.std.specs.Prelude.{IfSome}
use Rattle.std.proofs.lemmas.Option.{same_Some}
use Rattle.dsa_questions.specs.Answers.{CanHold}
use Rattle.dsa_questions.proofs.Outlooks.{in-none, with-some}

pub returns-clause-none : goal.returns-clause-none
returns-clause-none c caps script setup explored terms met first_met steps said can =
    let n = in-none explored.is_complete met said in
    let most = first_met.complete n.0 steps can in
    let clash : None ≡ Some most.0 = sym n.1 ∙ most.1.0 in
    absurd cc

pub returns-clause-some : goal.returns-clause-some
returns-clause-some c caps script setup explored terms met first_met steps said =
    subst (λ (o : Option ℕ). IfSome o (CanHold script first_met.first terms))
    (with-some explored.is_complete met steps said) first_met.sound

pub returns-clause-fewest : goal.returns-clause-fewest
returns-clause-fewest c caps script setup explored terms met first_met steps others complete said can =
    let most = first_met.complete complete others can in
    let same = same_Some steps most.0 (sym (with-some explored.is_complete met steps said) ∙ most.1.0) in
    omega (arith, same, most.1.1)
