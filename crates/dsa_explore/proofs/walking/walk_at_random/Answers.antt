use Rattle.dsa_explore.proofs.walking.walk_at_random.Goals as goal
use Rattle.std.proofs.Common.{[], List, ap, arith, length, refl, subst, sym}
use Rattle.dsa_explore.specs.declared.{found.Found.{Found}, stored.Try.{Try}}
use Rattle.dsa_explore.specs.{Walked.{space_of}, Walking.{HasStopped, IsAtWalk}}
use Rattle.dsa_explore.proofs.Lawful.{byte-keys, space-lawful}
use Rattle.dsa_explore.proofs.WalkSteps.{come-first, turn-full}

pub returns-in_default-clause-stopped : goal.returns-in_default-clause-stopped
returns-in_default-clause-stopped c = λ first begun fine.
    let caps = c.args.plan.now.caps in
    let script = c.args.plan.now.script.now in
    let space = space_of caps script in
    let set_up = length c.args.plan.now.setup.now in
    let full = (rw c.in_default.is at c.in_ok-walked.ensures.none) first first begun refl in
    subst (λ (l : List Try). HasStopped space first set_up l c.new-rows.result.items) (sym c.new-way.ensures.items)
    (subst (λ (r : List Found). HasStopped space first set_up [] r) (sym c.new-rows.ensures.items)
    (turn-full space first set_up [] [] first
    (come-first space (space-lawful caps script) byte-keys first fine) full))

pub loop-init : goal.loop-init
loop-init c = (
  λ first begun fine.
      let caps = c.args.plan.now.caps in
      let script = c.args.plan.now.script.now in
      let space = space_of caps script in
      subst (λ (l : List Try). IsAtWalk space first l c.new-rows.result.items c.in-Some.walked.value)
      (sym c.new-way.ensures.items)
      (subst (λ (r : List Found). IsAtWalk space first [] r c.in-Some.walked.value) (sym c.new-rows.ensures.items)
      (record {
        last = first;
        come = come-first space (space-lawful caps script) byte-keys first fine;
        there = (rw c.in-Some.is at c.in_ok-walked.ensures.there) first first begun refl;
        labels = rw c.in-Some.is at c.in_ok-walked.ensures.labels;
      })),
  (ap length c.new-way.ensures.items, (c.requires.before, c.requires.after)),
)

pub returns-in_default-led-clause-stopped : goal.returns-in_default-led-clause-stopped
returns-in_default-led-clause-stopped c = λ first begun fine.
    let at = c.loop.invariant.0 first begun fine in
    (rw c.in_default-led.is at c.in_ok-led.ensures.stopped) first begun at
    ((rw c.deref.ensures at c.in_ok-tries.ensures) at.there.fine)

pub loop-preserved : goal.loop-preserved
loop-preserved c = (
  λ first begun fine.
      (rw c.in-Some-led.is at c.in_ok-led.ensures.on) first begun (c.loop.invariant.0 first begun fine),
  (
    omega (arith, rw c.in-Some-led.is at c.in_ok-led.ensures.further, c.loop.invariant.1.0),
    (c.in_ok-led.ensures.before, c.in_ok-led.ensures.after),
  ),
)

pub returns-clause-stopped : goal.returns-clause-stopped
returns-clause-stopped c = λ first begun fine.
    let space = space_of c.args.plan.now.caps c.args.plan.now.script.now in
    let at = c.loop.invariant.0 first begun fine in
    turn-full space first (length c.args.plan.now.setup.now) c.loop.walk.way.items c.loop.walk.rows.items at.last
    at.come
    (omega (arith, c.loop.invariant.1.0, c.loop-test.false))
