use Rattle.dsa_workers.proofs.scripts.Run.run_rest.Goals as goal
use Rattle.std.proofs.Common.{◌<◌, ◌∙◌, sym, subst, ap, get_or, length, vec_len, arith}
use Rattle.dsa_workers.specs.Workers.{RunsEngine, RunsAdmin}

pub returns-clause-engines : goal.returns-clause-engines
returns-clause-engines g c k d e lt =
    let did = c.join_pair.ensures.first in
    let script = get_or c.args.scripts.now k e in
    let turns = c.args.self.now.turns in
    let below : k < length did.argument.now.items = omega (arith, ap (λ v. length v.items) did.argument_is, lt) in
    subst (λ new. RunsEngine g.L.Sharing.caps g.L.Sharing.capacity script turns
    (get_or c.args.rest.now.engines.items k d).seat
    (get_or new.items k d).seat (get_or new.items k d).stint) did.left
    (subst (λ old. RunsEngine g.L.Sharing.caps g.L.Sharing.capacity script turns (get_or old.items k d).seat
    (get_or did.after_call.now.items k d).seat
    (get_or did.after_call.now.items k d).stint) did.argument_is (did.call.0 k d e below))

pub returns-clause-len : goal.returns-clause-len
returns-clause-len g c =
    let did = c.join_pair.ensures.first in
    sym (ap (λ v. vec_len v) did.left) ∙ did.call.1 ∙ ap (λ v. vec_len v) did.argument_is

pub returns-clause-admin : goal.returns-clause-admin
returns-clause-admin g c =
    let did = c.join_pair.ensures.second in
    let turns = c.args.self.now.turns in
    subst (λ new. RunsAdmin g.L.Sharing.caps g.L.Sharing.capacity c.args.commands.now turns
    c.args.rest.now.admin.seat new.seat new.stint) did.left
    (subst (λ old. RunsAdmin g.L.Sharing.caps g.L.Sharing.capacity c.args.commands.now turns old.seat
    did.after_call.now.seat did.after_call.now.stint)
    did.argument_is did.call)
