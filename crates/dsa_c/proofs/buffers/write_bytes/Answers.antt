use Rattle.dsa_c.proofs.buffers.write_bytes.Goals as goal
use Rattle.dsa_c.proofs.Placing.{all-fits}

pub returns : goal.returns
returns c = rw (c.copy_from_slice.ensures.after, c.split_at_mut-front.ensures.back)
    (all-fits c.args.places.now c.args.bytes.now c.requires)
