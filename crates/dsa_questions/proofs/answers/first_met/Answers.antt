use Rattle.dsa_questions.proofs.answers.first_met.Goals as goal
use Rattle.std.proofs.Common.{◌≡◌, ◌∙◌, ℕ, Some, sym, ap, subst, ⊎_elim, arith}
use Rattle.std.specs.Prelude.{slice_get}
use Rattle.std.proofs.lemmas.Bool.{cases_eq}
use Rattle.dsa_formulas.specs.Formulas.{holds_in_world}
use Rattle.dsa_explore.specs.{declared.walked.Walked.{Walked}, Schedules.{IsScheduleTo}, Walked.{world_of}}
use Rattle.dsa_questions.proofs.Meeting.{holds-alike, met-first, met-none, one-at}

pub returns-in_default-clause-met : goal.returns-in_default-clause-met
returns-in_default-clause-met c = λ keeps.
    let one = one-at keeps c.args.terms.now c.loop-number.number (omega (arith, c.loop-number-test.true)) in
    absurd ((rw c.in_default.is at c.in_ok-visited.ensures.none) keeps one.0 one.1)

pub returns-then-branch-clause-met : goal.returns-then-branch-clause-met
returns-then-branch-clause-met c = λ keeps.
    let script = c.args.plan.now.script.now in
    let terms = c.args.terms.now in
    let one = one-at keeps terms c.loop-number.number (omega (arith, c.loop-number-test.true)) in
    let visit = (rw c.in-Some.is at c.in_ok-visited.ensures.visited) keeps in
    let here = ap (λ (w : Walked). holds_in_world script terms (world_of w)) c.deref.ensures in
    met-first keeps terms c.loop-number.number c.in-Some.visited.level one.0 one.1 (visit.level one.0 one.1)
    (sym (holds-alike script terms (world_of c.in-Some.visited.walked.value) one.0.world (visit.there one.0 one.1))
    ∙ sym here ∙ sym c.in_ok-holds.ensures ∙ c.if-branch.true) (c.loop-number.invariant keeps)

pub returns-then-branch-clause-shown : goal.returns-then-branch-clause-shown
returns-then-branch-clause-shown c = λ keeps.
    let caps = c.args.plan.now.caps in
    let script = c.args.plan.now.script.now in
    let terms = c.args.terms.now in
    let one = one-at keeps terms c.loop-number.number (omega (arith, c.loop-number-test.true)) in
    let visit = (rw c.in-Some.is at c.in_ok-visited.ensures.visited) keeps in
    let here = ap (λ (w : Walked). holds_in_world script terms (world_of w)) c.deref.ensures in
    record {
      world = world_of c.in-Some.visited.walked.value;
      holds = sym here ∙ sym c.in_ok-holds.ensures ∙ c.if-branch.true;
      schedule = subst (λ (n : ℕ). IsScheduleTo caps script c.args.plan.now.setup.now n
          (world_of c.in-Some.visited.walked.value) c.in-Some.visited.steps.items) (sym (visit.level one.0 one.1))
          (visit.schedule one.0 one.1);
    }

pub loop-number-preserved : goal.loop-number-preserved
loop-number-preserved c = λ keeps i x below at.
    let script = c.args.plan.now.script.now in
    let terms = c.args.terms.now in
    let visit = (rw c.in-Some.is at c.in_ok-visited.ensures.visited) keeps in
    let here = ap (λ (w : Walked). holds_in_world script terms (world_of w)) c.deref.ensures in
    ⊎_elim
    (λ (same : i ≡ c.loop-number.number).
    let at' = subst (λ (n : ℕ). slice_get keeps.table n ≡ Some x) same at in
    sym (holds-alike script terms (world_of c.in-Some.visited.walked.value) x.world (visit.there x at'))
    ∙ sym here ∙ sym c.in_ok-holds.ensures ∙ c.if-branch.false)
    (λ other. c.loop-number.invariant keeps i x (omega (arith, below, other)) at)
    (cases_eq i c.loop-number.number)

pub returns-clause-met : goal.returns-clause-met
returns-clause-met c = λ keeps.
    met-none keeps c.args.terms.now c.loop-number.number (omega (arith, c.loop-number-test.false))
    (c.loop-number.invariant keeps)
