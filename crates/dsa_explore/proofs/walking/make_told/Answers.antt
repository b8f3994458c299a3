use Rattle.dsa_explore.proofs.walking.make_told.Goals as goal
use Rattle.std.proofs.Common.{◌∙◌, ap, drop, length, refl, List, ℕ}
use Rattle.dsa_book.specs.declared.fate.FateRow.{FateRow}
use Rattle.dsa_explore.specs.{Findings.{labels_waited_for}, Rows.{labels_of}, Walked.{world_of}}
use Rattle.dsa_explore.proofs.Noted.{added-as}

pub returns-clause-made : goal.returns-clause-made
returns-clause-made c =
    let ends = c.ends_since-ends.ensures
    ∙ ap (λ (l : List FateRow). drop (length l) (world_of c.make.new.walked).state.work.fates) c.fates-before.ensures in
    let labels = c.as_slice-labels.ensures.value in
    let awaited = c.as_slice.ensures.value ∙ c.in_ok-awaited.ensures
    ∙ ap (λ (l : List ℕ). labels_waited_for (labels_of l) c.make.new.walked.machine.device.state
    c.in-Some.reply) labels in (
      record {
        reply = c.in-Some.reply;
        leads = rw c.in-Some.is at c.in_ok-reply.ensures.leads;
        fits = rw c.in-Some.is at c.in_ok-reply.ensures.queue;
        told = added-as c.args.steps c.ask_of-ask.result _ c.as_slice-labels.result.now
            c.make.new.walked.labels.items c.in-Some.reply c.ends_since-ends.result.now _ c.as_slice.result.now _
            c.args.rows.now.items c.add_findings.new.rows.items c.ask_of-ask.ensures labels ends awaited
            c.in_ok-add_findings.ensures;
      },
      refl,
    )
