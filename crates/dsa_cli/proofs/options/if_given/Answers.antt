use Rattle.dsa_cli.proofs.options.if_given.Goals as goal
use Rattle.std.proofs.Common.{refl}
use Rattle.dsa_cli.proofs.Choices.{first_here, first_later}

pub returns-then-is_given : goal.returns-then-is_given
returns-then-is_given g c = first_here c.is_given.ensures c.if-is_given.true

pub returns-else-is_given : goal.returns-else-is_given
returns-else-is_given g c = first_later c.is_given.ensures c.if-is_given.false refl
