use Rattle.dsa_explain_lines.proofs.parts.add_part.Goals as goal
use Rattle.std.proofs.Common.{◌∙◌, sym}

pub returns-then-is_full : goal.returns-then-is_full
returns-then-is_full g c = rw (c.in-Ok.is, sym c.is_full.ensures ∙ c.if-is_full.true) c.add_full.ensures
