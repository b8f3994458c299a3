use Rattle.dsa_cli.proofs.options.showing_asked.Goals as goal
use Rattle.std.proofs.Common.{refl}

pub returns : goal.returns
returns c = (refl, c.bounds_of-bounds.ensures, c.requires.row, c.requires.clash)
