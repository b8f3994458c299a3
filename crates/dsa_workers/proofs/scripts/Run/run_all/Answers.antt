use Rattle.dsa_workers.proofs.scripts.Run.run_all.Goals as goal
use Rattle.std.proofs.Common.{◌<◌, subst, ap, get_or, length, arith}
use Rattle.dsa_workers.specs.Workers.{RunsClient, RunsEngine}

pub returns-clause-clients : goal.returns-clause-clients
returns-clause-clients g c k d e lt =
    let did = c.join_pair.ensures.first in
    let turns = c.args.self.now.turns in
    let below : k < length did.argument.now.items = omega (arith, ap (λ v. length v.items) did.argument_is, lt) in
    subst (λ new. RunsClient g.L.Sharing.caps g.L.Sharing.capacity
    (get_or c.args.scripts.now.clients.items k e).items turns
    (get_or c.args.clients.now.items k d).seat (get_or new.items k d).seat (get_or new.items k d).stint) did.left
    (subst (λ old. RunsClient g.L.Sharing.caps g.L.Sharing.capacity
    (get_or c.args.scripts.now.clients.items k e).items turns (get_or old.items k d).seat
    (get_or did.after_call.now.items k d).seat (get_or did.after_call.now.items k d).stint) did.argument_is
    (subst (λ scripts. RunsClient g.L.Sharing.caps g.L.Sharing.capacity (get_or scripts k e).items turns
    (get_or did.argument.now.items k d).seat
    (get_or did.after_call.now.items k d).seat
    (get_or did.after_call.now.items k d).stint) c.as_slice-client_scripts.ensures.value
    (did.call.0 k d e below)))

pub returns-clause-engines : goal.returns-clause-engines
returns-clause-engines g c k d e lt =
    let did = c.join_pair.ensures.second in
    let turns = c.args.self.now.turns in
    let below : k < length did.argument.now.engines.items = omega (
      arith,
      ap (λ r. length r.engines.items) did.argument_is,
      lt,
    ) in
    subst (λ new. RunsEngine g.L.Sharing.caps g.L.Sharing.capacity (get_or c.args.scripts.now.engines.items k e) turns
    (get_or c.args.rest.now.engines.items k d).seat (get_or new.engines.items k d).seat
    (get_or new.engines.items k d).stint) did.left
    (subst (λ old. RunsEngine g.L.Sharing.caps g.L.Sharing.capacity (get_or c.args.scripts.now.engines.items k e) turns
    (get_or old.engines.items k d).seat (get_or did.after_call.now.engines.items k d).seat
    (get_or did.after_call.now.engines.items k d).stint) did.argument_is
    (subst (λ scripts. RunsEngine g.L.Sharing.caps g.L.Sharing.capacity (get_or scripts k e) turns
    (get_or did.argument.now.engines.items k d).seat
    (get_or did.after_call.now.engines.items k d).seat
    (get_or did.after_call.now.engines.items k d).stint) c.as_slice-engine_scripts.ensures.value
    (did.call.0 k d e below)))
