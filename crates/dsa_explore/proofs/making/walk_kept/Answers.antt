use Rattle.dsa_explore.proofs.making.walk_kept.Goals as goal
use Rattle.std.proofs.Common.{◌∙◌, ℕ, List, subst, arith}
use Rattle.std.proofs.lemmas.{List.{drop_all}}
use Rattle.dsa_explore.specs.declared.stored.Try.{Try}
use Rattle.dsa_explore.specs.{Schedules.{IsEventKept}, Walked.{space_of, world_of}}
use Rattle.dsa_explore.proofs.{Growth.{fine-more}, Lawful.{space-lawful}, Ready.{not-filled}, Scheduled.{kept-more}}
use Rattle.dsa_explore.proofs.Ways.{IsOnWay, on-first, on-made, on-more, on-end, way-at}

pub loop-tried-init : goal.loop-tried-init
loop-tried-init c =
    let caps = c.args.plan.now.caps in
    let script = c.args.plan.now.script.now in
    let space = space_of caps script in
    let lawful = space-lawful caps script in
    let fine = rw c.in-Some.is at c.in_ok-kept.ensures.fine in
    let left = rw c.in-Some.is at c.in_ok-kept.ensures.room in (
      rw c.in-Some.is at c.in_ok-kept.ensures.kept,
      (
        fine,
        (
          rw c.in-Some.is at c.in_ok-kept.ensures.labels,
          (
            omega arith,
            (
              record { few = omega (arith, left.few); room_is = left.room_is },
              λ fits first x begun way.
                  let again = rw c.in-Some.is at (c.in_ok-kept.ensures.again fits) in
                  on-first space lawful (world_of c.in-Some.kept.walked.value) first x c.args.path.now
                  (again first begun) fine way,
            ),
          ),
        ),
      ),
    )

pub returns-in_default-clause-none : goal.returns-in_default-clause-none
returns-in_default-clause-none c = λ fits most first x begun way.
    (rw c.in_default.is at (c.in_ok-kept.ensures.once (omega (arith, fits)) most)) first begun

pub returns-in_default-2-clause-none : goal.returns-in_default-2-clause-none
returns-in_default-2-clause-none c = λ fits most first x begun way.
    let caps = c.args.plan.now.caps in
    let script = c.args.plan.now.script.now in
    let space = space_of caps script in
    let lawful = space-lawful caps script in
    let i = c.loop-tried.invariant in
    let w = world_of c.loop-tried.kept.walked.value in
    let left = i.1.1.1.1.0 in
    let room = not-filled c.loop-tried.kept.walked.value.machine.device
    (omega (arith, left.few, left.room_is, fits, c.loop-tried-test.true)) in
    let cannot = (rw (c.in_default-2.is, c.deref_mut.ensures.value) at c.in_ok-step.ensures.none) i.1.1.0 room in
    on-made space lawful w x _ _ i.1.0
    (way-at space lawful w c.args.path.now c.loop-tried.tried-index _ x c.loop-tried-test.true
    (i.1.1.1.1.1 (omega (arith, fits)) first x begun way)) cannot

pub loop-tried-preserved : goal.loop-tried-preserved
loop-tried-preserved c =
    let caps = c.args.plan.now.caps in
    let script = c.args.plan.now.script.now in
    let space = space_of caps script in
    let lawful = space-lawful caps script in
    let i = c.loop-tried.invariant in
    let w = world_of c.loop-tried.kept.walked.value in
    let made = rw (c.in-Some-2.is, c.deref_mut.ensures.value) at c.in_ok-step.ensures.made in
    let more = rw (c.in-Some-2.is, c.deref_mut.ensures.value) at c.in_ok-step.ensures.room in
    let replay = rw c.deref.ensures at c.state_is_replay.ensures.replay in
    let left = i.1.1.1.1.0 in (
      rw c.in_ok-push.ensures.items (kept-more caps script c.args.plan.now.setup.now c.args.capacity
          c.loop-tried.tried-index c.loop-tried.kept.steps.items c.loop-tried.kept.walked.value c.make_step.new.walked
          _ i.0 (replay i.0.no_past) c.in-Some-2.step made),
      (
        fine-more space lawful w w (world_of c.make_step.new.walked) _ _ i.1.0 made.leads,
        (
          (rw (c.in-Some-2.is, c.deref_mut.ensures.value) at c.in_ok-step.ensures.labels) i.1.1.0,
          (
            omega (arith, c.loop-tried-test.true),
            (
              record {
                few = omega (arith, more.few, left.few);
                room_is = more.same_room ∙ left.room_is;
              },
              λ fits first x begun way. on-more space lawful w (world_of c.make_step.new.walked) x _ _ _ i.1.0
                  (way-at space lawful w c.args.path.now c.loop-tried.tried-index _ x c.loop-tried-test.true
                  (i.1.1.1.1.1 fits first x begun way)) made.leads
                  (rw c.in-Some-2.is at c.in_ok-step.ensures.queue),
            ),
          ),
        ),
      ),
    )

pub returns-clause-kept : goal.returns-clause-kept
returns-clause-kept c =
    subst (λ (n : ℕ). IsEventKept c.args.plan.now.caps c.args.plan.now.script.now c.args.plan.now.setup.now c.args.capacity n
    c.loop-tried.kept.steps.items c.loop-tried.kept.walked.value)
    (omega (arith, c.loop-tried-test.false, c.loop-tried.auto.tried-index-end)) c.loop-tried.invariant.0

pub returns-clause-fine : goal.returns-clause-fine
returns-clause-fine c = c.loop-tried.invariant.1.0

pub returns-clause-there : goal.returns-clause-there
returns-clause-there c = λ fits first x begun way.
    let caps = c.args.plan.now.caps in
    let script = c.args.plan.now.script.now in
    let space = space_of caps script in
    let lawful = space-lawful caps script in
    let w = world_of c.loop-tried.kept.walked.value in
    on-end space lawful w x (subst (λ (l : List Try). IsOnWay space w l x)
    (drop_all c.loop-tried.tried-index c.args.path.now (omega (arith, c.loop-tried-test.false)))
    (c.loop-tried.invariant.1.1.1.1.1 fits first x begun way))

pub returns-clause-labels : goal.returns-clause-labels
returns-clause-labels c = c.loop-tried.invariant.1.1.0

pub returns-clause-room : goal.returns-clause-room
returns-clause-room c =
    let i = c.loop-tried.invariant in
    record { few = omega (arith, i.1.1.1.0, i.1.1.1.1.0.few); room_is = i.1.1.1.1.0.room_is }
