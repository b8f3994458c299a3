use Rattle.dsa_explore.proofs.showing.schedule.Goals as goal
use Rattle.std.proofs.Common.{length, arith}
use Rattle.dsa_explore.specs.Walked.{space_of, world_of}
use Rattle.dsa_explore.proofs.{Kept.{telling-as}, Lawful.{space-lawful}, Ready.{not-filled}, Scheduled.{scheduled}}
use Rattle.dsa_explore.proofs.Tables.{other-keys}

pub returns-clause-shown : goal.returns-clause-shown
returns-clause-shown c =
    let kept = rw c.in-Some.is at c.in_ok-kept.ensures.kept in
    rw c.in_ok-push.ensures.items (scheduled c.args.plan.now.caps c.args.plan.now.script.now c.args.plan.now.setup.now
    c.room_to_show-capacity.result (length c.args.path.now) c.in-Some.kept.steps.items c.in-Some.kept.walked.value
    c.make_telling.new.walked _ kept ((rw c.deref.ensures at c.state_is_replay.ensures.replay) kept.no_past)
    c.args.finding.now c.in-Some-2.step
    (rw (c.in-Some-2.is, c.deref_mut.ensures.value) at c.in_ok-step.ensures.told) c.room_to_show-capacity.ensures.all)

pub returns-in_default-clause-none : goal.returns-in_default-clause-none
returns-in_default-clause-none c = λ fits first x begun way telling.
    let most = c.room_to_show-capacity.ensures.most in
    let all = c.room_to_show-capacity.ensures.all (omega (arith, most, fits)) in
    (rw c.in_default.is at (c.in_ok-kept.ensures.none (omega (arith, all)) (omega (arith, most, fits)))) first x begun way

pub returns-in_default-2-clause-none : goal.returns-in_default-2-clause-none
returns-in_default-2-clause-none c = λ fits first x begun way telling.
    let space = space_of c.args.plan.now.caps c.args.plan.now.script.now in
    let lawful = space-lawful c.args.plan.now.caps c.args.plan.now.script.now in
    let all = c.room_to_show-capacity.ensures.all (omega (arith, c.room_to_show-capacity.ensures.most, fits)) in
    let there = (rw c.in-Some.is at (c.in_ok-kept.ensures.there (omega (arith, all)))) first x begun way in
    let fine = rw c.in-Some.is at c.in_ok-kept.ensures.fine in
    let left = rw c.in-Some.is at c.in_ok-kept.ensures.room in
    let w = world_of c.in-Some.kept.walked.value in
    (rw (c.in_default-2.is, c.deref_mut.ensures.value) at c.in_ok-step.ensures.none)
    (rw c.in-Some.is at c.in_ok-kept.ensures.labels)
    (not-filled c.in-Some.kept.walked.value.machine.device (omega (arith, left.few, left.room_is, all))) fine
    (telling-as space lawful x w c.args.last c.args.finding.now there.0 fine (other-keys w x there.1) telling)
