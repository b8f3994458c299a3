use Rattle.dsa_cli.proofs.options.check_form_of.Goals as goal
use Rattle.dsa_cli.proofs.Choices.{or_else}

pub returns : goal.returns
returns c = or_else c.if_given.ensures (or_else c.if_given-color.ensures c.if_given-source.ensures)
