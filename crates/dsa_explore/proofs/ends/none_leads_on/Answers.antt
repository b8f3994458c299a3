use Rattle.dsa_explore.proofs.ends.none_leads_on.Goals as goal
use Rattle.std.proofs.Common.{◌≡◌, ◌∙◌, true, false, refl, inl, inr, arith, ap, Some}
use Rattle.std.proofs.lemmas.List.{take_all}
use Rattle.dsa_explore.specs.{Walked.{space_of, world_of}}
use Rattle.dsa_explore.proofs.Endings.{back-more, fine-to, keys-back, leads-back, leads-nowhere, leads-on}
use Rattle.dsa_explore.proofs.Lawful.{byte-keys, space-lawful}

pub loop-tried-init : goal.loop-tried-init
loop-tried-init c = (
  λ first table x begun is at there has room. ((λ tried i. absurd i), ((λ e. there), (λ e. has))),
  refl,
)

pub returns-then-not-back-clause-decided : goal.returns-then-not-back-clause-decided
returns-then-not-back-clause-decided c = λ first table x begun is at there has room.
    let caps = c.args.plan.now.caps in
    let script = c.args.plan.now.script.now in
    let before = c.loop-tried.invariant.0 first table x begun is at there has room in
    let here = (rw c.in-Ok.is at c.in_ok-here.ensures.there) first table x begun is at before.1.0 in
    leads-on (space_of caps script) (space-lawful caps script) byte-keys first c.args.search.now table c.args.number x is at
    (world_of c.in-Ok.here.value) (world_of c.leads_back.new.walked) _ here
    (rw (c.in-Some.is, c.deref_mut.ensures.value) at c.in_ok-led.ensures.led)
    (c.in_ok-led.ensures.away (c.in-Some.is ∙ ap (λ b. Some b) c.if-not-back.true) (c.loop-tried.invariant.1 ∙ room))

pub loop-tried-preserved-in_default-led : goal.loop-tried-preserved-in_default-led
loop-tried-preserved-in_default-led c = (
  λ first table x begun is at there has room.
      let caps = c.args.plan.now.caps in
      let script = c.args.plan.now.script.now in
      let before = c.loop-tried.invariant.0 first table x begun is at there has room in
      let here = (rw c.in-Ok.is at c.in_ok-here.ensures.there) first table x begun is at before.1.0 in
      let labels = (rw c.in-Ok.is at c.in_ok-here.ensures.labels) before.1.1 in
      let cannot = (rw (c.in_default-led.is, c.deref_mut.ensures.value) at c.in_ok-led.ensures.none) labels
      (rw c.in-Ok.is at c.in_ok-here.ensures.room) in (
        back-more (space_of caps script) x c.args.tries.now c.loop-tried.tried-index _ _ c.loop-tried-test.true refl
            before.0
            (inr (leads-nowhere (space_of caps script) (space-lawful caps script) byte-keys first c.args.search.now table
            c.args.number x is at (world_of c.in-Ok.here.value) _ here cannot)),
        (
          (λ (e : false ≡ true). absurd cc),
          (λ (e : false ≡ true). absurd cc),
        ),
      ),
  c.in_ok-led.ensures.room ∙ c.loop-tried.invariant.1,
)

pub loop-tried-preserved : goal.loop-tried-preserved
loop-tried-preserved c = (
  λ first table x begun is at there has room.
      let caps = c.args.plan.now.caps in
      let script = c.args.plan.now.script.now in
      let before = c.loop-tried.invariant.0 first table x begun is at there has room in
      let here = (rw c.in-Ok.is at c.in_ok-here.ensures.there) first table x begun is at before.1.0 in
      let labels = (rw c.in-Ok.is at c.in_ok-here.ensures.labels) before.1.1 in
      let led = rw (c.in-Some.is, c.deref_mut.ensures.value) at c.in_ok-led.ensures.led in
      let same = c.in_ok-led.ensures.back (c.in-Some.is ∙ ap (λ b. Some b) c.if-not-back.false) in
      let back = leads-back (space_of caps script) (space-lawful caps script) byte-keys first c.args.search.now table
      c.args.number x is at (world_of c.in-Ok.here.value) (world_of c.leads_back.new.walked) _ here led same in (
        back-more (space_of caps script) x c.args.tries.now c.loop-tried.tried-index _ _ c.loop-tried-test.true refl
            before.0 (inl back),
        (
          λ e. record {
            fine = fine-to (space_of caps script) (space-lawful caps script) byte-keys first c.args.search.now table
                c.args.number x is at (world_of c.in-Ok.here.value) (world_of c.leads_back.new.walked) _ here led;
            keys = keys-back (space_of caps script) (space-lawful caps script) byte-keys first c.args.search.now table
                c.args.number x is at (world_of c.in-Ok.here.value) (world_of c.leads_back.new.walked) _ here led same;
          },
          λ e. (rw (c.in-Some.is, c.deref_mut.ensures.value) at c.in_ok-led.ensures.labels) labels,
        ),
      ),
  c.in_ok-led.ensures.room ∙ c.loop-tried.invariant.1,
)

pub returns-in_default-clause-none : goal.returns-in_default-clause-none
returns-in_default-clause-none c = λ first table x begun is at.
    ((rw c.in_default.is at c.in_ok-here.ensures.halted) first table x begun is at).1

pub returns-clause-decided : goal.returns-clause-decided
returns-clause-decided c = λ first table x begun is at there has room tried i.
    (c.loop-tried.invariant.0 first table x begun is at there has room).0 tried
    (rw (take_all c.loop-tried.tried-index c.args.tries.now (omega (arith, c.loop-tried-test.false))) i)
