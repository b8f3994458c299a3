use Rattle.dsa_cli.proofs.options.written_in.Goals as goal
use Rattle.dsa_cli.proofs.Choices.{chosen, not_chosen}

pub returns-then-is_given : goal.returns-then-is_given
returns-then-is_given c = chosen _ _ c.is_given.ensures c.if-is_given.true

pub returns-else-is_given : goal.returns-else-is_given
returns-else-is_given c = not_chosen _ _ c.is_given.ensures c.if-is_given.false
