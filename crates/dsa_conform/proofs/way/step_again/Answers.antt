use Rattle.dsa_conform.proofs.way.step_again.Goals as goal
use Rattle.std.proofs.Common.{◌∙◌, sym}
use Rattle.dsa_conform.specs.Seen.{seen_as}
use Rattle.dsa_conform.proofs.Walks.{followed_more}

pub returns-clause-made : goal.returns-clause-made
returns-clause-made c = record {
  answers = λ before t.
      c.ask_for-entry.ensures.answers ∙ c.event_for-asked.ensures before (rw c.deref.ensures.value t);
  leads = c.ask_for-entry.ensures.leads;
  noted = c.in_ok-note_ticket.ensures;
  shown = sym c.in_ok-is_shown.ensures ∙ c.if-not-branch.false;
}

pub returns-clause-follows : goal.returns-clause-follows
returns-clause-follows c = λ caps capacity done number h.
    followed_more caps capacity _ _ done (c.args.action, seen_as c.args.seen.now) number _ _ c.ask_for-entry.result
    (λ before t. c.ask_for-entry.ensures.answers ∙ c.event_for-asked.ensures before (rw c.deref.ensures.value t))
    c.ask_for-entry.ensures.leads c.in_ok-note_ticket.ensures
    (sym c.in_ok-is_shown.ensures ∙ c.if-not-branch.false) h
