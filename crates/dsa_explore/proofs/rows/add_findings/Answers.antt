use Rattle.dsa_explore.proofs.rows.add_findings.Goals as goal
use Rattle.std.proofs.Common.{◌++◌}
use Rattle.dsa_explore.specs.{Findings.{answer_to, ends_of, removals_of, waits_told}, Rows.{labels_of}}
use Rattle.dsa_explore.proofs.Added.{added-both}

pub returns : goal.returns
returns c =
    let told = c.args.told.now in
    let labels = labels_of told.labels.now in
    let steps = c.args.steps in
    let answers = answer_to told.ask labels told.reply in
    let ends = ends_of labels told.ends.now in
    let waits = waits_told told.ask told.awaited.now in
    let removals = removals_of told.ask labels told.ends.now in
    added-both steps answers (ends ++ (waits ++ removals)) c.args.rows.now.items c.add_answer.new.rows.items
    c.add_removals.new.rows.items c.in_ok-add_answer.ensures
    (added-both steps ends (waits ++ removals) c.add_answer.new.rows.items c.add_ends.new.rows.items
    c.add_removals.new.rows.items c.in_ok-add_ends.ensures
    (added-both steps waits removals c.add_ends.new.rows.items c.add_waits.new.rows.items
    c.add_removals.new.rows.items c.in_ok-add_waits.ensures c.in_ok-add_removals.ensures))
