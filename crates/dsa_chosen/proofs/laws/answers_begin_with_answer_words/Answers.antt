use Rattle.dsa_chosen.proofs.laws.answers_begin_with_answer_words.Goals as goal
use Rattle.dsa_chosen.proofs.Beginnings.{record-begins}

pub returns : goal.returns
returns c = record-begins
