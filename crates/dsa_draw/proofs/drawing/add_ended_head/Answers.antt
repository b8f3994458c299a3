use Rattle.dsa_draw.proofs.drawing.add_ended_head.Goals as goal
use Rattle.dsa_draw.specs.Rows.{ended_head_text}

pub returns : goal.returns
unfolding ended_head_text
returns c = c.write.ensures.bytes
