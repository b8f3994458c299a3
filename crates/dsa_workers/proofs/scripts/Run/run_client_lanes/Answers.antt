use Rattle.dsa_workers.proofs.scripts.Run.run_client_lanes.Goals as goal
use Rattle.std.proofs.{Common.{◌<◌, subst, ap, get_or, length, drop, rules, arith}, lemmas.List.{take_at}}
use Rattle.dsa_workers.specs.Workers.{RunsClient}

pub returns-clause-runs : goal.returns-clause-runs
returns-clause-runs g c k d e lt =
    let lanes = c.run_clients.new.lanes in
    let is = c.as_mut_slice.ensures.value in
    let all = take_at lanes (drop (length lanes) c.args.lanes.now.items) c.args.lanes.now.len (search rules) in
    let below : k < length c.as_mut_slice.result.now = omega (arith, ap length is, lt) in
    rw all (subst (λ old. RunsClient g.L.Sharing.caps g.L.Sharing.capacity (get_or c.args.scripts.now k e).items
    c.args.self.now.turns (get_or old k d).seat
    (get_or lanes k d).seat (get_or lanes k d).stint) is
    (c.run_clients.ensures k d e below))
