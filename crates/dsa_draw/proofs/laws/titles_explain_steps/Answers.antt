use Rattle.dsa_draw.proofs.laws.titles_explain_steps.Goals as goal
use Rattle.std.proofs.Common.{append_assoc}

pub returns-clause-named : goal.returns-clause-named
returns-clause-named c = λ named moment is. rw (is.of_entry, is.reason, is.note) (simp append_assoc)

pub returns-clause-nameless : goal.returns-clause-nameless
returns-clause-nameless c = λ step moment is. rw (is.of_entry, is.reason, is.note) (simp append_assoc)
