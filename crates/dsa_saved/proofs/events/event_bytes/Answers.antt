use Rattle.dsa_saved.proofs.events.event_bytes.Goals as goal
use Rattle.std.proofs.Common.{ap, ◌∙◌}
use Rattle.dsa_saved.specs.{Words.{bytes_of_words}, Format.{event_bytes}}

pub returns-clause-bytes : goal.returns-clause-bytes
unfolding event_bytes
returns-clause-bytes c = c.bytes_of.ensures.bytes ∙ ap bytes_of_words c.event_words-words.ensures
