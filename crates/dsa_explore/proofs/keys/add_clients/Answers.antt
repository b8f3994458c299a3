use Rattle.dsa_explore.proofs.keys.add_clients.Goals as goal
use Rattle.dsa_explore.specs.Keys.{client_bytes}
use Rattle.dsa_explore.proofs.Written.{bytes-more}

pub loop-place-preserved : goal.loop-place-preserved
loop-place-preserved c =
    bytes-more client_bytes c.args.places.now c.loop-place.place-index _ c.args.out.now.items c.loop-place.out.items
    c.add_client.new.out.items c.loop-place-test.true c.loop-place.invariant c.in_ok-add_client.ensures
