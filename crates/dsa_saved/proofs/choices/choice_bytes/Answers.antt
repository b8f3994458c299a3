use Rattle.dsa_saved.proofs.choices.choice_bytes.Goals as goal
use Rattle.std.proofs.Common.{ap, ◌∙◌}
use Rattle.dsa_saved.specs.{Words.{bytes_of_words}, Format.{choice_bytes}}

pub returns-clause-bytes : goal.returns-clause-bytes
unfolding choice_bytes
returns-clause-bytes c = c.bytes_of.ensures.bytes ∙ ap bytes_of_words c.choice_words-words.ensures
