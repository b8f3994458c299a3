use Rattle.dsa_cli.proofs.options.form_of.Goals as goal
use Rattle.dsa_cli.proofs.Choices.{or_else}

pub returns : goal.returns
returns c =
    or_else c.if_given.ensures (or_else c.if_given-json.ensures
    (or_else c.if_given-changes.ensures c.if_given-wide.ensures))
