use Rattle.dsa_explore.proofs.trials.try_all.Goals as goal
use Rattle.std.proofs.Common.{◌≡◌, ◌∙◌, ◌<◌, [], List, ℕ, Some, true, take, length, subst, sym, ap, refl, arith}
use Rattle.std.specs.Prelude.{slice_get}
use Rattle.std.proofs.lemmas.List.{take_all}
use Rattle.dsa_explore.specs.declared.{stored.Try.{Try}, trials.Trial.{Trial}}
use Rattle.dsa_explore.specs.{Keys.{world_bytes}, Trials.{AreMadeFrom}, Walked.{space_of, world_of}}
use Rattle.dsa_explore.proofs.Endings.{fine-to, keys-back, leads-nowhere}
use Rattle.dsa_explore.proofs.{Lawful.{byte-keys, space-lawful}, Ways.{map-none, map-some}}
use Rattle.dsa_explore.proofs.Tried.{AreSoFar, so-far-none, so-far-more, some-of, known-of, trials-halted, steps-halt, far-halt}

pub loop-tried-init : goal.loop-tried-init
loop-tried-init c = (
  λ first table x begun is at there has. (
    subst (λ (l : List Trial). AreSoFar (space_of c.args.plan.now.caps c.args.plan.now.script.now) x [] l)
        (sym c.new-trials.ensures.items) (so-far-none (space_of c.args.plan.now.caps c.args.plan.now.script.now) x),
    ((λ e. there), (λ e. has)),
  ),
  refl,
)

pub returns-in-Err-clause-trials : goal.returns-in-Err-clause-trials
returns-in-Err-clause-trials c = λ first table x begun is at there has.
    let space = space_of c.args.plan.now.caps c.args.plan.now.script.now in
    let t = c.loop-tried.invariant.0 first table x begun is at there has in
    trials-halted space x (length c.args.plan.now.setup.now) c.args.key.now.line.capacity c.args.tries.now
    (take c.loop-tried.tried-index c.args.tries.now) c.loop-tried.trials.items c.halted_at.result c.in-Err.halt t.0
    (ap (λ v. v.items) c.halted_at.ensures.trials) c.halted_at.ensures.halted
    (steps-halt space x (length c.args.plan.now.setup.now) c.args.key.now.line.capacity c.in-Err.halt
    ((rw c.in-Err.is at c.in_ok-here.ensures.halted) first table x begun is at))

pub returns-in-Err-2-clause-trials : goal.returns-in-Err-2-clause-trials
returns-in-Err-2-clause-trials c = λ first table x begun is at there has.
    let space = space_of c.args.plan.now.caps c.args.plan.now.script.now in
    let t = c.loop-tried.invariant.0 first table x begun is at there has in
    let here = (rw c.in-Ok.is at c.in_ok-here.ensures.there) first table x begun is at t.1.0 in
    let long = rw (c.in-Err-2.is, c.deref_mut.ensures.value) at c.in_ok-led.ensures.long in
    let capacity = c.loop-tried.invariant.1 in
    trials-halted space x (length c.args.plan.now.setup.now) c.args.key.now.line.capacity c.args.tries.now
    (take c.loop-tried.tried-index c.args.tries.now) c.loop-tried.trials.items c.halted_at-in-Err-2.result c.in-Err-2.halt t.0
    (ap (λ v. v.items) c.halted_at-in-Err-2.ensures.trials) c.halted_at-in-Err-2.ensures.halted
    (far-halt space x (length c.args.plan.now.setup.now) c.args.key.now.line.capacity c.in-Err-2.halt long.0 (record {
      from = world_of c.in-Ok.here.value;
      to = world_of c.attempt.new.walked;
      move = _;
      reply = long.1.0;
      there = here;
      leads = long.1.1;
      long = omega (arith, long.1.2, capacity);
    }))

pub loop-tried-preserved : goal.loop-tried-preserved
loop-tried-preserved c = (
  λ first table x begun is at there has.
      let caps = c.args.plan.now.caps in
      let script = c.args.plan.now.script.now in
      let space = space_of caps script in
      let t = c.loop-tried.invariant.0 first table x begun is at there has in
      let here = (rw c.in-Ok.is at c.in_ok-here.ensures.there) first table x begun is at t.1.0 in
      let labels = (rw c.in-Ok.is at c.in_ok-here.ensures.labels) t.1.1 in
      let room = rw c.in-Ok.is at c.in_ok-here.ensures.room in
      let from = world_of c.in-Ok.here.value in
      let to = world_of c.attempt.new.walked in
      let led = c.in-Ok-2.led in (
        so-far-more space x c.args.tries.now c.loop-tried.tried-index _ _ led c.loop-tried.trials.items
            c.add_trial.new.trials.items c.loop-tried-test.true refl c.in_ok-add_trial.ensures.some
            c.in_ok-add_trial.ensures.none
            (map-some led (rw (c.in-Ok-2.is, c.deref_mut.ensures.value) at c.in_ok-led.ensures.trial)
            (λ trial made. made x here))
            (rw c.in-Ok-2.is at c.in_ok-led.ensures.tried)
            (map-none led (rw (c.in-Ok-2.is, c.deref_mut.ensures.value) at c.in_ok-led.ensures.none)
            (λ cannot. leads-nowhere space (space-lawful caps script) byte-keys first c.args.search.now table
            c.args.number x is at from _ here (cannot labels room)))
            t.0,
        (
          λ e.
              let none = c.led_back-is_there.ensures.made e in
              let made = some-of led none (rw (c.in-Ok-2.is, c.deref_mut.ensures.value) at c.in_ok-led.ensures.led) in
              let same = known-of led (λ (trial : Trial). trial.key.items)
              (slice_get c.args.search.now.seen.strings c.args.number) (world_bytes to) none (c.led_back-is_there.ensures.back e)
              (rw c.in-Ok-2.is at c.in_ok-led.ensures.key) in
              record {
                fine = fine-to space (space-lawful caps script) byte-keys first c.args.search.now table c.args.number x is at
                    from to _ here made;
                keys = keys-back space (space-lawful caps script) byte-keys first c.args.search.now table c.args.number x is
                    at from to _ here made same;
              },
          λ e. some-of led (c.led_back-is_there.ensures.made e)
              (rw (c.in-Ok-2.is, c.deref_mut.ensures.value) at c.in_ok-led.ensures.labels) labels,
        ),
      ),
  c.in_ok-led.ensures.room ∙ c.loop-tried.invariant.1,
)

pub returns-clause-trials : goal.returns-clause-trials
returns-clause-trials c = λ first table x begun is at there has.
    let space = space_of c.args.plan.now.caps c.args.plan.now.script.now in
    let t = c.loop-tried.invariant.0 first table x begun is at there has in
    record {
      each = t.0.each;
      made = subst (λ (l : List Try). AreMadeFrom space x l c.loop-tried.trials.items)
          (take_all c.loop-tried.tried-index c.args.tries.now (omega (arith, c.loop-tried-test.false))) t.0.made;
      halts = tt;
    }
