use Rattle.dsa_workers.proofs.scripts.Run.run_engines.Goals as goal
use Rattle.std.proofs.Common.{subst, get_or, arith}
use Rattle.dsa_workers.specs.Workers.{RunsEngine}
use Rattle.std.proofs.lemmas.Grind.{common_steps}

pub returns : goal.returns
returns g c k d e lt =
    let did = (c.for_each_mut.ensures k d lt).1 in
    subst (λ new. RunsEngine g.L.Sharing.caps g.L.Sharing.capacity (get_or c.args.scripts.now k e) c.args.self.now.turns
    (get_or c.args.lanes.now k d).seat new.seat new.stint) did.left
    (subst (λ old. RunsEngine g.L.Sharing.caps g.L.Sharing.capacity (get_or c.args.scripts.now k e)
    c.args.self.now.turns old.seat did.after_call.now.seat
    did.after_call.now.stint) did.argument_is (did.call e))

pub for_each_mut-requires-clause-accepts : goal.for_each_mut-requires-clause-accepts
for_each_mut-requires-clause-accepts = grind (arith, common_steps)
