use Rattle.dsa_answers.proofs.laws.same_replies_are_equal.Goals as goal
use Rattle.dsa_book.proofs.EqualReplies.{equal-replies, same_reply-self}

pub returns-clause-equal : goal.returns-clause-equal
returns-clause-equal c = equal-replies

pub returns-clause-itself : goal.returns-clause-itself
returns-clause-itself c = same_reply-self
