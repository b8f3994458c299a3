use Rattle.dsa_explore.proofs.walked.act_offer.Goals as goal
use Rattle.std.proofs.Common.{◌∙◌, Some, None, sym}
use Rattle.dsa_parties.specs.Standing.{stand_of}
use Rattle.dsa_keys.specs.Key.{key}
use Rattle.dsa_explore.specs.Rows.{labels_of}
use Rattle.dsa_explore.proofs.Offered.{act-offered}

pub returns-in_default : goal.returns-in_default
returns-in_default c =
    act-offered c.args.script.now (stand_of c.args.walked.now.places)
    (key (labels_of c.args.walked.now.labels.items) c.args.walked.now.machine.device.state) c.args.administrator None
    (sym c.in_default.is ∙ c.act.ensures)

pub returns : goal.returns
returns c =
    (λ i. Some (record { event = c.event.ensures i; label = c.spare_label.ensures i }))
    ∙ act-offered c.args.script.now (stand_of c.args.walked.now.places)
    (key (labels_of c.args.walked.now.labels.items) c.args.walked.now.machine.device.state) c.args.administrator
    (Some c.in-Some.act) (sym c.in-Some.is ∙ c.act.ensures)
