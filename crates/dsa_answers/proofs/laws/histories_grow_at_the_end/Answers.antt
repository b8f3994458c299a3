use Rattle.dsa_answers.proofs.laws.histories_grow_at_the_end.Goals as goal
use Rattle.dsa_book.proofs.Replay.{replay-snoc}

pub returns : goal.returns
returns c = replay-snoc
