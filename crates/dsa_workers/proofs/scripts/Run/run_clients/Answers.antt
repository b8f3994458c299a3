use Rattle.dsa_workers.proofs.scripts.Run.run_clients.Goals as goal
use Rattle.std.proofs.Common.{subst, get_or}
use Rattle.dsa_workers.specs.Workers.{RunsClient}

pub returns : goal.returns
returns g c k d e lt =
    let did = (c.for_each_mut.ensures k d lt).1 in
    subst (λ new. RunsClient g.L.Sharing.caps g.L.Sharing.capacity (get_or c.args.scripts.now k e).items
    c.args.self.now.turns
    (get_or c.args.lanes.now k d).seat new.seat new.stint) did.left
    (subst (λ old. RunsClient g.L.Sharing.caps g.L.Sharing.capacity (get_or c.args.scripts.now k e).items
    c.args.self.now.turns old.seat
    did.after_call.now.seat did.after_call.now.stint) did.argument_is (did.call e))
