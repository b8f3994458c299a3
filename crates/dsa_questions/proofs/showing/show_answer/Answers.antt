use Rattle.dsa_questions.proofs.showing.show_answer.Goals as goal
use Rattle.std.proofs.Common.{ap, string_bytes, subst, sym}
use Rattle.std.proofs.lemmas.{Option.{IfSome_then}, Result.{IfOk-weaker}}
use Rattle.dsa_questions.specs.declared.question.Sought.{Sought}
use Rattle.dsa_questions.specs.{Answers.{IsFirstMet}, Reading.{wanted_said}, Shown.{HasNoneToShow, IsAnswerShown, IsSoonest}}
use Rattle.dsa_questions.proofs.Soonest.{no-row-answers, no-state-answers, row-answers, state-answers}

pub returns-in_default-clause-none : goal.returns-in_default-clause-none
returns-in_default-clause-none c = λ keeps.
    let caps = c.args.plan.now.caps in
    let script = c.args.plan.now.script.now in
    let setup = c.args.plan.now.setup.now in
    let explored = c.args.searched.now.explored in
    let kind = c.args.question.now.kind in
    let name = string_bytes c.args.question.now.name in
    subst (λ (s : Sought). HasNoneToShow caps script setup explored
    (record { kind = kind; name = name; wanted = wanted_said s })) (sym c.in-Rows.is)
    (no-row-answers caps script setup explored kind name c.in-Rows.conditions.items
    (rw c.as_slice.ensures.value at (rw c.as_slice-rows.ensures.value at c.in_default.ensures.none)))

pub returns-in_default-2-clause-none : goal.returns-in_default-2-clause-none
returns-in_default-2-clause-none c = λ keeps.
    let caps = c.args.plan.now.caps in
    let script = c.args.plan.now.script.now in
    let setup = c.args.plan.now.setup.now in
    let explored = c.args.searched.now.explored in
    let kind = c.args.question.now.kind in
    let name = string_bytes c.args.question.now.name in
    subst (λ (s : Sought). HasNoneToShow caps script setup explored
    (record { kind = kind; name = name; wanted = wanted_said s })) (sym c.in-States.is)
    (no-state-answers caps script setup explored kind name c.in-States.terms.items
    (rw c.as_slice-in-States.ensures.value at
    ((rw c.in_default-2.is at c.in_ok-met-in-States.ensures.met) keeps)))

pub returns-in-Some-clause-shown : goal.returns-in-Some-clause-shown
returns-in-Some-clause-shown c =
    let caps = c.args.plan.now.caps in
    let script = c.args.plan.now.script.now in
    let setup = c.args.plan.now.setup.now in
    let explored = c.args.searched.now.explored in
    let kind = c.args.question.now.kind in
    let name = string_bytes c.args.question.now.name in
    let soon : IsSoonest c.in-Rows.conditions.items explored.rows.items c.in-Some.row =
    rw c.as_slice.ensures.value at (rw c.as_slice-rows.ensures.value at c.in-Some.ensures.found) in
    IfOk-weaker c.show.result _ _
    (λ found schedules. IfSome_then found schedules
    (λ steps schedule. λ keeps.
    subst (λ (s : Sought). IsAnswerShown caps script setup explored
    (record { kind = kind; name = name; wanted = wanted_said s }) steps.items) (sym c.in-Rows.is)
    (row-answers caps script setup explored kind name c.in-Rows.conditions.items c.in-Some.row steps.items soon
    schedule)))
    c.show.ensures.shown

pub returns-in-Some-2-clause-shown : goal.returns-in-Some-2-clause-shown
returns-in-Some-2-clause-shown c = λ keeps.
    let caps = c.args.plan.now.caps in
    let script = c.args.plan.now.script.now in
    let setup = c.args.plan.now.setup.now in
    let explored = c.args.searched.now.explored in
    let kind = c.args.question.now.kind in
    let name = string_bytes c.args.question.now.name in
    let met = c.in-Some-2.met in
    subst (λ (s : Sought). IsAnswerShown caps script setup explored
    (record { kind = kind; name = name; wanted = wanted_said s }) met.steps.items) (sym c.in-States.is)
    (state-answers caps script setup explored kind name c.in-States.terms.items met.level met.steps.items
    (rw c.as_slice-in-States.ensures.value at ((rw c.in-Some-2.is at c.in_ok-met-in-States.ensures.met) keeps))
    (rw c.as_slice-in-States.ensures.value at ((rw c.in-Some-2.is at c.in_ok-met-in-States.ensures.shown) keeps)))
