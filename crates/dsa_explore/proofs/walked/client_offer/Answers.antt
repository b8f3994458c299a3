use Rattle.dsa_explore.proofs.walked.client_offer.Goals as goal
use Rattle.std.proofs.Common.{◌∙◌, Some, None, sym}
use Rattle.dsa_parties.specs.Standing.{stand_of}
use Rattle.dsa_keys.specs.Key.{key}
use Rattle.dsa_explore.specs.Rows.{labels_of}
use Rattle.dsa_explore.proofs.Offered.{client-offered}

pub returns-in_default : goal.returns-in_default
returns-in_default c =
    client-offered c.args.script.now (stand_of c.args.walked.now.places)
    (key (labels_of c.args.walked.now.labels.items) c.args.walked.now.machine.device.state) c.args.client None
    (sym c.in_default.is ∙ c.turn.ensures)

pub returns : goal.returns
returns c =
    (λ i. Some (record { event = c.event.ensures i; label = c.in-Some.turn.place.next }))
    ∙ client-offered c.args.script.now (stand_of c.args.walked.now.places)
    (key (labels_of c.args.walked.now.labels.items) c.args.walked.now.machine.device.state) c.args.client
    (Some c.in-Some.turn) (sym c.in-Some.is ∙ c.turn.ensures)
