use Rattle.dsa_explore.proofs.showing.show_after.Goals as goal
use Rattle.std.proofs.Common.{◌≡◌, ◌∙◌, ℕ, List, Option, sym, subst, take, get_or, ⊎_elim, arith}
use Rattle.std.proofs.lemmas.List.{take_all, take_more}
use Rattle.dsa_base.{specs.Lists.{In}, proofs.Lists.{In-push}}
use Rattle.dsa_explore.specs.declared.stored.Try.{Try}
use Rattle.dsa_explore.specs.{Walked.{space_of, world_of}, Ways.{IsTellingStep}}
use Rattle.dsa_explore.proofs.{Kept.{telling-as, when-not}, Lawful.{space-lawful}, Tables.{other-keys}}

pub returns-in_default-clause-none : goal.returns-in_default-clause-none
returns-in_default-clause-none c = λ fits first x tried begun way telling.
    let most = c.room_to_show.ensures.most in
    let all = c.room_to_show.ensures.all (omega (arith, most, fits)) in
    (rw c.in_default.is at (c.in_ok-kept.ensures.none (omega (arith, all)) (omega (arith, most, fits)))) first x begun way

pub loop-last-init : goal.loop-last-init
loop-last-init c = λ fits first x tried begun way within. absurd within

pub loop-last-preserved : goal.loop-last-preserved
loop-last-preserved c = λ fits first x tried begun way within telling.
    let space = space_of c.args.plan.now.caps c.args.plan.now.script.now in
    let tries = c.as_slice-last-items.result.now in
    ⊎_elim (λ i. c.loop-last.invariant fits first x tried begun way i telling)
    (λ (same : get_or tries c.loop-last.last-index _ ≡ tried).
    when-not c.in_ok-found.found (sym c.is_some.ensures ∙ c.if-is_some.false) (c.in_ok-found.ensures.none fits) first x
    begun way (subst (λ (t : Try). IsTellingStep space x t c.args.finding.now) (sym same) telling))
    (In-push tried (take c.loop-last.last-index tries) _
    (subst (λ (l : List Try). In tried l) (take_more tries c.loop-last.last-index _ c.loop-last-test.true) within))

pub returns-clause-none : goal.returns-clause-none
returns-clause-none c = λ fits first x tried begun way telling.
    let space = space_of c.args.plan.now.caps c.args.plan.now.script.now in
    let lawful = space-lawful c.args.plan.now.caps c.args.plan.now.script.now in
    let all = c.room_to_show.ensures.all (omega (arith, c.room_to_show.ensures.most, fits)) in
    let there = (rw c.in-Some.is at (c.in_ok-kept.ensures.there (omega (arith, all)))) first x begun way in
    let fine = rw c.in-Some.is at c.in_ok-kept.ensures.fine in
    let w = world_of c.in-Some.kept.walked.value in
    let t = telling-as space lawful x w tried c.args.finding.now there.0 fine (other-keys w x there.1) telling in
    let listed = subst (λ (q : Option ℕ). In (record { by = tried.by; queue = q }) c.in_ok-tries.tries.items) t.taken
    ((rw c.deref.ensures at c.in_ok-tries.ensures) fine t.after tried.by t.reply t.leads) in
    c.loop-last.invariant fits first x tried begun way
    (rw (take_all c.loop-last.last-index c.as_slice-last-items.result.now (omega (arith, c.loop-last-test.false)))
    (subst (λ (l : List Try). In tried l) (sym c.as_slice-last-items.ensures.value) listed)) telling
