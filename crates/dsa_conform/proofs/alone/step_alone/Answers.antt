use Rattle.dsa_conform.proofs.alone.step_alone.Goals as goal
use Rattle.std.proofs.Common.{◌∙◌}
use Rattle.std.proofs.lemmas.Result.{IfOk-weaker}

pub returns : goal.returns
returns c =
    IfOk-weaker c.is_shown.result _ _ (λ shown is. record {
      entry = c.ask-entry.result;
      answers = λ before t.
          c.ask-entry.ensures.answers ∙ c.event_for-asked.ensures before (rw c.deref.ensures.value t);
      leads = c.ask-entry.ensures.leads;
      noted = c.in_ok-note_ticket.ensures;
      shown = is;
    })
    c.is_shown.ensures
