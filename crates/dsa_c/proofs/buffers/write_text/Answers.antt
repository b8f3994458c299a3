use Rattle.dsa_c.proofs.buffers.write_text.Goals as goal
use Rattle.std.proofs.Common.{◌∙◌, sym}
use Rattle.dsa_c.proofs.Placing.{text-written}

pub returns : goal.returns
returns c = rw (c.copy_from_slice.ensures.after, c.split_at_mut-front.ensures.back)
    (text-written c.args.places.now c.args.text.now c.min-shown.result (sym c.is_empty.ensures ∙ c.if-is_empty.false)
    c.min-shown.ensures)
