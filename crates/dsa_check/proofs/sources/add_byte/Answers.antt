use Rattle.dsa_check.proofs.sources.add_byte.Goals as goal
use Rattle.std.proofs.Common.{rules}
use Rattle.dsa_check.proofs.Shown.{shown_alone}

pub returns : goal.returns
returns c = rw (← shown_alone c.args.byte, ← c.shown.ensures) (search rules)
