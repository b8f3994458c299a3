use Rattle.dsa_explore.proofs.walked.event_by_label.Goals as goal
use Rattle.dsa_book.specs.declared.event.Event.TheVariants as event
use Rattle.std.proofs.Common.{◌==◌, ◌∙◌, ap, sym}
use Rattle.std.specs.Prelude.{find, option_map}
use Rattle.dsa_store.specs.Content.{HeldEntry}
use Rattle.dsa_book.specs.State.{ticket_of_entry}
use Rattle.dsa_keys.specs.Steps.{event_by_label}
use Rattle.dsa_explore.specs.Rows.{labels_of}

pub returns-in_default-find_labelled-clause-none : goal.returns-in_default-find_labelled-clause-none
returns-in_default-find_labelled-clause-none c =
    let running = c.as_slice.ensures.value ∙ c.in_ok-running.ensures in
    let found =
    (λ i. find (λ (pair : HeldEntry). labels_of (sym c.as_slice-labels.ensures.value i) pair.1.name
    == c.in-Finish.ticket.name) (sym running i)) ∙ sym c.find_labelled.ensures ∙ c.in_default-find_labelled.is in
    ap (event_by_label (labels_of c.args.walked.now.labels.items) c.args.walked.now.machine.device.state)
    c.in-Finish.is
    ∙ ap (option_map (λ (pair : HeldEntry). event.Finish c.in-Finish.engine (ticket_of_entry pair) c.in-Finish.outcome))
    found

pub returns-clause-found : goal.returns-clause-found
returns-clause-found c =
    let running = c.as_slice.ensures.value ∙ c.in_ok-running.ensures in
    let found =
    (λ i. find (λ (pair : HeldEntry). labels_of (sym c.as_slice-labels.ensures.value i) pair.1.name
    == c.in-Finish.ticket.name) (sym running i)) ∙ sym c.find_labelled.ensures ∙ c.in-Some.is in
    ap (event_by_label (labels_of c.args.walked.now.labels.items) c.args.walked.now.machine.device.state)
    c.in-Finish.is
    ∙ ap (option_map (λ (pair : HeldEntry). event.Finish c.in-Finish.engine (ticket_of_entry pair) c.in-Finish.outcome))
    found
