use Rattle.dsa_party_check.proofs.laws.each_bad_question_is_told.Goals as goal
use Rattle.dsa_party_check.proofs.Asked.{one-bad, one-good, quiet-unformed}

pub returns-clause-good : goal.returns-clause-good
returns-clause-good c kind names first place done more d is = one-good names kind first place done more d is

pub returns-clause-bad : goal.returns-clause-bad
returns-clause-bad c kind names first place done d is = one-bad names kind first place done d is

pub returns-clause-unread : goal.returns-clause-unread
returns-clause-unread c kind names first place d is = quiet-unformed kind names first place d is
