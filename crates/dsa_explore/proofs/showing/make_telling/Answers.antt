use Rattle.dsa_explore.proofs.showing.make_telling.Goals as goal
use Rattle.std.proofs.Common.{◌∙◌, ℕ, List, ap, sym, drop, length}
use Rattle.dsa_book.specs.declared.fate.FateRow.{FateRow}
use Rattle.dsa_explore.specs.{Findings.{labels_waited_for}, Rows.{labels_of}, Walked.{space_of, world_of}}
use Rattle.dsa_explore.proofs.{Kept.{telling-made}, Lawful.{space-lawful}, Scheduled.{told-as}}

pub returns-clause-told : goal.returns-clause-told
returns-clause-told c =
    let ends = c.ends_since-ends.ensures
    ∙ ap (λ (l : List FateRow). drop (length l) (world_of c.make_step.new.walked).state.work.fates)
    c.fates-before.ensures in
    let labels = c.as_slice-labels.ensures.value in
    let awaited = c.as_slice.ensures.value ∙ c.in_ok-awaited.ensures
    ∙ ap (λ (l : List ℕ). labels_waited_for (labels_of l) c.make_step.new.walked.machine.device.state
    c.in-Some.step.reply) labels in
    record {
      made = rw c.in-Some.is at c.in_ok-step.ensures.made;
      tells = told-as c.args.finding.now c.ask_of-ask.result _ c.as_slice-labels.result.now
          c.make_step.new.walked.labels.items c.in-Some.step.reply c.ends_since-ends.result.now _
          c.as_slice.result.now _ c.ask_of-ask.ensures labels ends awaited
          (c.in_ok-tells.ensures.told c.if-not-branch.false);
    }

pub returns-in_default-clause-none : goal.returns-in_default-clause-none
returns-in_default-clause-none c = λ has room fine telling.
    (rw c.in_default.is at c.in_ok-step.ensures.none) has room telling.after telling.reply telling.leads telling.taken

pub returns-then-not-branch-clause-none : goal.returns-then-not-branch-clause-none
returns-then-not-branch-clause-none c = λ has room fine telling.
    let caps = c.args.plan.now.caps in
    let script = c.args.plan.now.script.now in
    let made = rw c.in-Some.is at c.in_ok-step.ensures.made in
    let ends = c.ends_since-ends.ensures
    ∙ ap (λ (l : List FateRow). drop (length l) (world_of c.make_step.new.walked).state.work.fates)
    c.fates-before.ensures in
    let labels = c.as_slice-labels.ensures.value in
    let awaited = c.as_slice.ensures.value ∙ c.in_ok-awaited.ensures
    ∙ ap (λ (l : List ℕ). labels_waited_for (labels_of l) c.make_step.new.walked.machine.device.state
    c.in-Some.step.reply) labels in
    c.in_ok-tells.ensures.other c.if-not-branch.true
    (told-as c.args.finding.now _ c.ask_of-ask.result c.make_step.new.walked.labels.items c.as_slice-labels.result.now
    c.in-Some.step.reply _ c.ends_since-ends.result.now _ c.as_slice.result.now (sym c.ask_of-ask.ensures) (sym labels)
    (sym ends) (sym awaited)
    (telling-made (space_of caps script) (space-lawful caps script) (world_of c.args.walked.now)
    (world_of c.make_step.new.walked) c.args.tried c.in-Some.step.reply c.args.finding.now fine made.leads
    (rw c.in-Some.is at c.in_ok-step.ensures.queue) telling))
