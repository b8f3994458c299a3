use Rattle.dsa_explain_lines.proofs.laws.answers_have_reasons.Goals as goal
use Rattle.dsa_laws.proofs.Histories.{replay-well_formed}
use Rattle.dsa_device.proofs.Known.{lawful}
use Rattle.dsa_explain_lines.proofs.Reasons.{answered-told, begins, follows-told, full-told, is-shown, none-offered}
use Rattle.dsa_explain_lines.specs.Parts.{full_part, part_of}
use Rattle.std.specs.Prelude.{Ok, length, ◌==◌}

pub returns-clause-steps : goal.returns-clause-steps
returns-clause-steps c now step reached may fails =
    let well = replay-well_formed now.caps now.history now.state reached in
    is-shown step.reply (part_of now (Ok step.event)) fails
    (follows-told now.state well.cells.once c.submissions_follow_reasons.ensures c.writes_follow_reasons.ensures.queue
    c.writes_follow_reasons.ensures.group c.commands_follow_reasons.ensures c.polls_follow_reasons.ensures
    c.waits_follow_reasons.ensures.told now.caps now.capacity now.history step (full_part now) (full-told now) reached may
    fails)

pub returns-clause-devices : goal.returns-clause-devices
returns-clause-devices c now after step past answers fails =
    is-shown step.reply (part_of now (Ok step.event)) fails
    (answered-told now.state (lawful now past).cells.once c.submissions_follow_reasons.ensures
    c.writes_follow_reasons.ensures.queue c.writes_follow_reasons.ensures.group c.commands_follow_reasons.ensures
    c.polls_follow_reasons.ensures c.waits_follow_reasons.ensures.told now after step.event step.reply (full_part now)
    (full-told now) (length now.history == now.capacity) answers fails)

pub returns-clause-words : goal.returns-clause-words
returns-clause-words c now fault = begins _ _

pub returns-clause-no_queue : goal.returns-clause-no_queue
returns-clause-no_queue c = none-offered
