use Rattle.dsa_explore.proofs.making.make_step.Goals as goal
use Rattle.std.proofs.Common.{◌+◌, ◌∙◌, ℕ, List, ap, sym, ⊎_elim, drop, length}
use Rattle.std.specs.Prelude.{map, option_map}
use Rattle.dsa_book.specs.declared.fate.FateRow.{FateRow}
use Rattle.dsa_keys.specs.Labels.{Labels, with_label, labelled_reply, labelled_row}
use Rattle.dsa_keys.specs.{Parties.{Offer}, Steps.{event_by_label}}
use Rattle.dsa_parties.specs.{Standing.{stand_of}, Watches.{moved_by}}
use Rattle.dsa_explore.specs.declared.walked.Offered.{Offered}
use Rattle.dsa_explore.specs.{Rows.{labels_of}, Walked.{world_of}}
use Rattle.dsa_explore.proofs.{Made.{made}, Ready.{labels-kept, not-followed, not-named, not-offered}}
use Rattle.dsa_explore.proofs.Scheduled.{step-made}

pub returns-clause-made : goal.returns-clause-made
returns-clause-made c =
    let script = c.args.plan.now.script.now in
    let w = world_of c.args.walked.now in
    let offered = sym c.offer.ensures ∙ ap (option_map (λ (o : Offered). record { event = o.event; label = o.label }))
    c.in-Some.is in
    let labels = c.in_ok-set_label.ensures.set c.if-not-branch.false
    ∙ ap (λ n. with_label w.labels n c.in-Some.offered.label) c.next_name-name.ensures in
    let event = rw c.in-Some-2.is at c.in_ok-event.ensures.found in
    let step = c.in-Some-step_from.ensures.next in
    let named = c.as_slice-labels.ensures.value in
    let told = c.labelled_reply.ensures
    ∙ ap (λ (l : List ℕ). labelled_reply (labels_of l) c.in-Some-step_from.reply) named in
    let rows = c.as_slice.ensures.value ∙ c.in_ok-ends.ensures
    ∙ ap (λ (l : List ℕ). map (labelled_row (labels_of l)) c.ends_since.result.now) named
    ∙ ap (map (labelled_row (labels_of c.set_label.new.labels.items)))
    (c.ends_since.ensures
    ∙ ap (λ (l : List FateRow). drop (length l) c.step_from.new.machine.device.state.work.fates) c.fates-before.ensures)
    in
    let places = c.make_move.ensures ∙ (λ i. moved_by script w.places c.args.tried.by (told i) (rows i)) in
    record {
      is = step-made script w (labels_of c.set_label.new.labels.items) c.args.tried.by c.in-Some-step_from.reply
          (record { event = c.in-Some.offered.event; label = c.in-Some.offered.label }) c.in-Some-2.event offered labels
          event;
      leads = made script w (record {
        places = stand_of c.make_move.new.places;
        labels = labels_of c.set_label.new.labels.items;
        state = c.step_from.new.machine.device.state;
      }) c.args.tried.by c.in-Some-step_from.reply
          (record { event = c.in-Some.offered.event; label = c.in-Some.offered.label }) c.in-Some-2.event offered labels
          event step places;
      answered = c.in-Some-step_from.ensures.answered;
    }

pub returns-clause-queue : goal.returns-clause-queue
returns-clause-queue c = c.in-Some-step_from.ensures.queue

pub returns-in_default-clause-none : goal.returns-in_default-clause-none
returns-in_default-clause-none c = λ has room.
    not-offered c.args.plan.now.script.now (world_of c.args.walked.now) c.args.tried
    (sym c.offer.ensures ∙ ap (option_map (λ (o : Offered). record { event = o.event; label = o.label }))
    c.in_default.is)

pub returns-then-not-branch-clause-none : goal.returns-then-not-branch-clause-none
returns-then-not-branch-clause-none c = λ has room.
    let unset = c.in_ok-set_label.ensures.unset c.if-not-branch.true in
    let name = sym c.next_name-name.ensures in
    absurd (⊎_elim (λ e. unset.0 (e ∙ name)) (λ e. unset.1 (e ∙ ap (λ (n : ℕ). n + 1) name)) has)

pub returns-in_default-2-clause-none : goal.returns-in_default-2-clause-none
returns-in_default-2-clause-none c = λ has room.
    let script = c.args.plan.now.script.now in
    let w = world_of c.args.walked.now in
    let o : Offer = record { event = c.in-Some.offered.event; label = c.in-Some.offered.label } in
    let offered = sym c.offer.ensures ∙ ap (option_map (λ (o : Offered). record { event = o.event; label = o.label }))
    c.in-Some.is in
    let labels = c.in_ok-set_label.ensures.set c.if-not-branch.false
    ∙ ap (λ n. with_label w.labels n c.in-Some.offered.label) c.next_name-name.ensures in
    not-named script w c.args.tried o offered
    (ap (λ (m : Labels). event_by_label m w.state o.event) (sym labels)
    ∙ rw c.in_default-2.is at c.in_ok-event.ensures.none)

pub returns-in_default-step_from-clause-none : goal.returns-in_default-step_from-clause-none
returns-in_default-step_from-clause-none c = λ has room.
    let script = c.args.plan.now.script.now in
    let w = world_of c.args.walked.now in
    let o : Offer = record { event = c.in-Some.offered.event; label = c.in-Some.offered.label } in
    let offered = sym c.offer.ensures ∙ ap (option_map (λ (o : Offered). record { event = o.event; label = o.label }))
    c.in-Some.is in
    let labels = c.in_ok-set_label.ensures.set c.if-not-branch.false
    ∙ ap (λ n. with_label w.labels n c.in-Some.offered.label) c.next_name-name.ensures in
    not-followed script w c.args.tried o c.in-Some-2.event offered
    (ap (λ (m : Labels). event_by_label m w.state o.event) (sym labels)
    ∙ rw c.in-Some-2.is at c.in_ok-event.ensures.found) (c.in_default-step_from.ensures.none room)

pub returns-clause-labels : goal.returns-clause-labels
returns-clause-labels c = λ has.
    let count = c.in_ok-set_label.ensures.count c.if-not-branch.false
    ∙ ap (λ (n : ℕ). n + 1) c.next_name-name.ensures in
    labels-kept c.set_label.new.labels.items c.args.walked.now.machine.device.state
    c.step_from.new.machine.device.state c.in-Some-2.event c.in-Some-step_from.reply count
    c.in-Some-step_from.ensures.next
