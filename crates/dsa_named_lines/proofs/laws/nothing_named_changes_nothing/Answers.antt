use Rattle.dsa_named_lines.proofs.laws.nothing_named_changes_nothing.Goals as goal
use Rattle.dsa_named_lines.proofs.Nameless.{nameless}

pub returns : goal.returns
returns c = nameless
