use Rattle.dsa_explore.proofs.making.begin_kept.Goals as goal
use Rattle.std.proofs.Common.{ap, sym, ◌∙◌}
use Rattle.std.specs.Prelude.{nat_lt}
use Rattle.dsa_parties.specs.Standing.{stand_of}
use Rattle.dsa_explore.specs.{declared.walked.Walked.{Walked}, Rows.{labels_of}}
use Rattle.dsa_explore.proofs.Begun.{again, begins, begins-fine, lets-in, lets-none-in, room-left}
use Rattle.dsa_explore.proofs.Scheduled.{kept-first}

pub returns-clause-kept : goal.returns-clause-kept
returns-clause-kept c =
    let caps = c.args.plan.now.caps in
    let script = c.args.plan.now.script.now in
    let setup = c.args.plan.now.setup.now in
    let before = c.deref_mut.result.now in
    let first = ap (λ (w : Walked). w.machine.device) c.deref_mut.ensures.value
    ∙ (rw c.in-Some.is at c.in_ok-walked.ensures.first) in
    let answered = rw c.in_ok-steps.ensures.items at c.in_ok-run.ensures.ok in
    let ran = rw c.in_ok-steps.ensures.items at c.in_ok-run.ensures.run in
    let names = ap (λ (w : Walked). nat_lt 0 w.machine.device.state.work.setup.next_name) (sym c.deref.ensures)
    ∙ sym c.has_names.ensures ∙ c.if-has_names.false in
    let stands = ap (λ (w : Walked). stand_of w.places) c.deref_mut.ensures.value
    ∙ (rw c.in-Some.is at c.in_ok-walked.ensures.places) in
    kept-first caps script setup c.args.capacity c.run.new.steps.items _ before.machine.device first answered ran names stands

pub returns-clause-fine : goal.returns-clause-fine
returns-clause-fine c =
    let caps = c.args.plan.now.caps in
    let script = c.args.plan.now.script.now in
    let setup = c.args.plan.now.setup.now in
    let before = c.deref_mut.result.now in
    let first = ap (λ (w : Walked). w.machine.device) c.deref_mut.ensures.value
    ∙ (rw c.in-Some.is at c.in_ok-walked.ensures.first) in
    let ran = rw c.in_ok-steps.ensures.items at c.in_ok-run.ensures.run in
    let names = ap (λ (w : Walked). nat_lt 0 w.machine.device.state.work.setup.next_name) (sym c.deref.ensures)
    ∙ sym c.has_names.ensures ∙ c.if-has_names.false in
    let stands = ap (λ (w : Walked). stand_of w.places) c.deref_mut.ensures.value
    ∙ (rw c.in-Some.is at c.in_ok-walked.ensures.places) in
    begins-fine caps script setup c.args.capacity before.machine.device c.run.new.self c.run.new.steps.items first ran
    (stand_of before.places) (labels_of before.labels.items) names stands

pub returns-clause-begun : goal.returns-clause-begun
returns-clause-begun c = λ room.
    let caps = c.args.plan.now.caps in
    let script = c.args.plan.now.script.now in
    let setup = c.args.plan.now.setup.now in
    let before = c.deref_mut.result.now in
    let first = ap (λ (w : Walked). w.machine.device) c.deref_mut.ensures.value
    ∙ (rw c.in-Some.is at c.in_ok-walked.ensures.first) in
    let ran = rw c.in_ok-steps.ensures.items at c.in_ok-run.ensures.run in
    let names = ap (λ (w : Walked). nat_lt 0 w.machine.device.state.work.setup.next_name) (sym c.deref.ensures)
    ∙ sym c.has_names.ensures ∙ c.if-has_names.false in
    let stands = ap (λ (w : Walked). stand_of w.places) c.deref_mut.ensures.value
    ∙ (rw c.in-Some.is at c.in_ok-walked.ensures.places) in
    let unlabelled = ap (λ (w : Walked). labels_of w.labels.items) c.deref_mut.ensures.value
    ∙ ap labels_of (rw c.in-Some.is at c.in_ok-walked.ensures.no_labels) in
    begins caps script setup c.args.capacity before.machine.device c.run.new.self c.run.new.steps.items first ran
    (stand_of before.places) (labels_of before.labels.items) names stands unlabelled
    (rw c.in-Some.is at c.in_ok-walked.ensures.some) room

pub returns-then-has_names-clause-none : goal.returns-then-has_names-clause-none
returns-then-has_names-clause-none c = λ room.
    let caps = c.args.plan.now.caps in
    let script = c.args.plan.now.script.now in
    let setup = c.args.plan.now.setup.now in
    let before = c.deref_mut.result.now in
    let first = ap (λ (w : Walked). w.machine.device) c.deref_mut.ensures.value
    ∙ (rw c.in-Some.is at c.in_ok-walked.ensures.first) in
    let ran = rw c.in_ok-steps.ensures.items at c.in_ok-run.ensures.run in
    let names = ap (λ (w : Walked). nat_lt 0 w.machine.device.state.work.setup.next_name) (sym c.deref.ensures)
    ∙ sym c.has_names.ensures ∙ c.if-has_names.true in
    lets-in caps script setup c.args.capacity before.machine.device c.run.new.self c.run.new.steps.items first ran room names

pub returns-clause-again : goal.returns-clause-again
returns-clause-again c = λ room is begun.
    let caps = c.args.plan.now.caps in
    let script = c.args.plan.now.script.now in
    let setup = c.args.plan.now.setup.now in
    let before = c.deref_mut.result.now in
    let first = ap (λ (w : Walked). w.machine.device) c.deref_mut.ensures.value
    ∙ (rw c.in-Some.is at c.in_ok-walked.ensures.first) in
    let ran = rw c.in_ok-steps.ensures.items at c.in_ok-run.ensures.run in
    let stands = ap (λ (w : Walked). stand_of w.places) c.deref_mut.ensures.value
    ∙ (rw c.in-Some.is at c.in_ok-walked.ensures.places) in
    let unlabelled = ap (λ (w : Walked). labels_of w.labels.items) c.deref_mut.ensures.value
    ∙ ap labels_of (rw c.in-Some.is at c.in_ok-walked.ensures.no_labels) in
    again caps script setup c.args.capacity before.machine.device c.run.new.self c.run.new.steps.items first ran room
    (stand_of before.places) (labels_of before.labels.items) stands unlabelled is begun

pub returns-then-has_names-clause-once : goal.returns-then-has_names-clause-once
returns-then-has_names-clause-once c = λ room most is begun.
    let caps = c.args.plan.now.caps in
    let script = c.args.plan.now.script.now in
    let setup = c.args.plan.now.setup.now in
    let before = c.deref_mut.result.now in
    let first = ap (λ (w : Walked). w.machine.device) c.deref_mut.ensures.value
    ∙ (rw c.in-Some.is at c.in_ok-walked.ensures.first) in
    let ran = rw c.in_ok-steps.ensures.items at c.in_ok-run.ensures.run in
    let names = ap (λ (w : Walked). nat_lt 0 w.machine.device.state.work.setup.next_name) (sym c.deref.ensures)
    ∙ sym c.has_names.ensures ∙ c.if-has_names.true in
    lets-none-in caps script setup c.args.capacity before.machine.device c.run.new.self c.run.new.steps.items first ran room names is begun

pub returns-clause-room : goal.returns-clause-room
returns-clause-room c =
    let caps = c.args.plan.now.caps in
    let script = c.args.plan.now.script.now in
    let setup = c.args.plan.now.setup.now in
    let before = c.deref_mut.result.now in
    let first = ap (λ (w : Walked). w.machine.device) c.deref_mut.ensures.value
    ∙ (rw c.in-Some.is at c.in_ok-walked.ensures.first) in
    let ran = rw c.in_ok-steps.ensures.items at c.in_ok-run.ensures.run in
    let left = room-left caps script setup c.args.capacity before.machine.device c.run.new.self c.run.new.steps.items first ran in
    record { few = left.0; room_is = left.1 }
