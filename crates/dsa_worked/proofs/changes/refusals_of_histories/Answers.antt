use Rattle.dsa_worked.proofs.changes.refusals_of_histories.Goals as goal
use Rattle.std.proofs.Common.{◌≡◌, ◌∷◌, ◌++◌, [], List, arith, lit≤, refl, ap, sym, subst}
use Rattle.std.specs.Prelude.{unwrap_or}
use Rattle.dsa_regs.specs.Worked.{caps}
use Rattle.dsa_book.specs.declared.answer.{Cause.TheVariants.{AtLimit, NotEnabled}, SubmitAnswer.{SubmitAnswer}}
use Rattle.dsa_book.specs.declared.answer.SubmitAnswer.TheVariants.{Accepted, Retry}
use Rattle.dsa_book.specs.declared.event.{Kind.TheVariants.{Enqcmd}, Portal.TheVariants.{Limited}, Step.{Step}}
use Rattle.dsa_book.specs.State.{opening}
use Rattle.dsa_laws.specs.Refusals.{HasItsCause, EachHasItsCause}
use Rattle.dsa_worked.specs.Setup.{setup, no_op, enqcmd, ticket, step_of_a_take}
use Rattle.dsa_worked.specs.Changes.{refused_often, state_here}

-- no step stands in no steps
pub returns-clause-no_steps : goal.returns-clause-no_steps
returns-clause-no_steps c [] after client queue portal kind desc answer is = absurd cc
returns-clause-no_steps c (step ∷ before) after client queue portal kind desc answer is = absurd cc

-- what the last submission says of the state before it
last : (steps : List Step) (answer : SubmitAnswer)
    → EachHasItsCause caps ((setup ++ steps) ++ enqcmd no_op answer ∷ [])
    → HasItsCause (state_here steps).work 0 Limited (Enqcmd 5) answer
last steps answer each =
    let found = each (setup ++ steps) [] 0 0 Limited (Enqcmd 5) no_op answer refl in
    let is : state_here steps ≡ found.0 = ap (λ o. unwrap_or o (opening caps)) found.1 in
    subst (λ s. HasItsCause s.work 0 Limited (Enqcmd 5) answer) (sym is) found.2

pub returns-clause-below_the_limit : goal.returns-clause-below_the_limit
returns-clause-below_the_limit c each = omega (arith, ((last [] (Retry AtLimit) each AtLimit).0 refl).2)

pub returns-clause-for_another_cause : goal.returns-clause-for_another_cause
returns-clause-for_another_cause c each =
    grind (arith, (last (refused_often 0) (Retry NotEnabled) each NotEnabled).0 refl)

pub returns-clause-accepted_at_the_limit : goal.returns-clause-accepted_at_the_limit
returns-clause-accepted_at_the_limit c each =
    let retry = (last (refused_often 60) (Accepted (ticket 2 2)) each AtLimit).1 (refl, refl, lit≤ tt) in absurd cc

pub returns-clause-taken_entries_make_room : goal.returns-clause-taken_entries_make_room
returns-clause-taken_entries_make_room c each =
    omega (arith, ((last (refused_often 60 ++ step_of_a_take 0 0 0 ∷ []) (Retry AtLimit) each AtLimit).0 refl).2)
