use Rattle.dsa_workers.proofs.scripts.Run.run_loaded.Goals as goal
use Rattle.std.proofs.Common.{◌≡◌, ◌≤◌, ◌∙◌, ◌+◌, [], ◌∷◌, ◌++◌, sym, subst, ap, refl, length, get_or, rules}
use Rattle.std.proofs.{Common.{vec_len, vec_capacity, arith}, lemmas.List.{length-map}}
use Rattle.dsa_workers.specs.Workers.{RunsClient, RunsEngine, RunsAdmin, stint_at}
use Rattle.dsa_workers.specs.declared.scripts.WorkerEnd.TheVariants.{TurnsOut}
use Rattle.dsa_workers.proofs.Lifts.{runs_back, in_three, get_last, lanes_left, stint_same, length_parts, turns_of}
use Rattle.dsa_workers.proofs.{Lifts.{ends_of, lent, noted}, scripts.Run.run_loaded.Given.{Over}}

-- the report has the clients, the engines and then the administrator, and a lane came back for each seat
record Reported (g : Over) (c : goal.After-drop-admin_lane g) : Type 0 where
  turns : c.push_reserved.new.self.items ≡ turns_of c.run_all.new.clients.items
      ++ (turns_of c.run_all.new.rest.engines.items ++ c.run_all.new.rest.admin.stint.turns ∷ [])
  ends : c.push_reserved-2.new.self.items ≡ ends_of c.run_all.new.clients.items
      ++ (ends_of c.run_all.new.rest.engines.items ++ c.run_all.new.rest.admin.stint.ended ∷ [])
  clients : length c.run_all.new.clients.items ≡ vec_len c.args.clients.now
  engines : length c.run_all.new.rest.engines.items ≡ vec_len c.args.engines.now

reported : (g : Over) (c : goal.After-drop-admin_lane g) → Reported g c
reported g c = record {
  turns = in_three _ _ _ _ _ _ _ (search rules) c.unload.ensures.turns c.unload-2.ensures.turns
      c.push_reserved.ensures.items;
  ends = in_three _ _ _ _ _ _ _ (search rules) c.unload.ensures.ended c.unload-2.ensures.ended
      c.push_reserved-2.ensures.items;
  clients = lanes_left _ _ _ _ (search rules) c.load-client_lanes.ensures.seats (search rules);
  engines = lanes_left _ _ _ _ (search rules) c.load-engine_lanes.ensures.seats (search rules);
}

pub returns-clause-clients : goal.returns-clause-clients
returns-clause-clients g c k d e lt =
    let all = reported g c in
    runs_back (λ n s t stint. RunsClient g.L.Sharing.caps g.L.Sharing.capacity
    (get_or c.args.scripts.now.clients.items n e).items c.args.self.now.turns s t stint) _ _ _ _ _ _ [] _ [] _ 0
    c.load-client_lanes.ensures.seats c.unload.ensures.seats (search rules) all.turns all.ends refl refl
    (λ n x below. c.run_all.ensures.clients n x e below) k k d (omega arith) lt

pub returns-clause-engines : goal.returns-clause-engines
returns-clause-engines g c k d e lt =
    let all = reported g c in
    runs_back (λ n s t stint. RunsEngine g.L.Sharing.caps g.L.Sharing.capacity
    (get_or c.args.scripts.now.engines.items n e) c.args.self.now.turns s t stint) _ _ _ _ _ _
    (turns_of c.run_all.new.clients.items) _ (ends_of c.run_all.new.clients.items) _ (vec_len c.args.clients.now)
    c.load-engine_lanes.ensures.seats c.unload-2.ensures.seats (search rules) all.turns all.ends
    (length-map _ _ ∙ all.clients) (length-map _ _ ∙ all.clients)
    (λ n x below. c.run_all.ensures.engines n x e below) k _ d refl lt

pub returns-clause-admin : goal.returns-clause-admin
returns-clause-admin g c =
    let all = reported g c in
    let t = get_last _ _ _ _ _ _ 0 all.turns (length-map _ _ ∙ all.clients) (length-map _ _ ∙ all.engines) in
    let u = get_last _ _ _ _ _ _ TurnsOut all.ends (length-map _ _ ∙ all.clients) (length-map _ _ ∙ all.engines) in
    subst (λ a. RunsAdmin g.L.Sharing.caps g.L.Sharing.capacity c.args.scripts.now.admin.items c.args.self.now.turns
    a c.run_all.new.rest.admin.seat
    (stint_at (record { turns = c.push_reserved.new.self; ended = c.push_reserved-2.new.self })
    (vec_len c.args.clients.now + vec_len c.args.engines.now))) c.idle.ensures.0
    (stint_same _ _ _ _ _ _ _ _ _ t u c.run_all.ensures.admin)

pub returns-clause-items : goal.returns-clause-items
returns-clause-items g c =
    let all = reported g c in
    let last : length c.push_reserved.new.self.items ≡ vec_len c.push_reserved.new.self = search rules in
    let last-2 : length c.push_reserved-2.new.self.items ≡ vec_len c.push_reserved-2.new.self = search rules in (
      sym last ∙ length_parts _ _ _ _ _ _ all.turns (length-map _ _ ∙ all.clients) (length-map _ _ ∙ all.engines),
      sym last-2
          ∙ length_parts _ _ _ _ _ _ all.ends (length-map _ _ ∙ all.clients) (length-map _ _ ∙ all.engines),
    )

pub load-client_lanes-requires-clause-count : goal.load-client_lanes-requires-clause-count
load-client_lanes-requires-clause-count g c = c.requires.client_rooms.0

pub load-client_lanes-requires-clause-room : goal.load-client_lanes-requires-clause-room
load-client_lanes-requires-clause-room g c = c.requires.client_rooms.1

pub load-engine_lanes-requires-clause-count : goal.load-engine_lanes-requires-clause-count
load-engine_lanes-requires-clause-count g c = c.requires.engine_rooms.0

pub load-engine_lanes-requires-clause-room : goal.load-engine_lanes-requires-clause-room
load-engine_lanes-requires-clause-room g c = c.requires.engine_rooms.1

pub run_all-requires-clause-scripts : goal.run_all-requires-clause-scripts
run_all-requires-clause-scripts g c κs within = (
  lent _ _ _ _ c.load-client_lanes.result.ok.0 c.args.clients.now.ok.0 c.load-client_lanes.ensures.seats
      ∙ c.requires.scripts.0,
  lent _ _ _ _ c.load-engine_lanes.result.ok.0 c.args.engines.now.ok.0 c.load-engine_lanes.ensures.seats
      ∙ c.requires.scripts.1,
)

pub run_all-requires-clause-workers : goal.run_all-requires-clause-workers
run_all-requires-clause-workers g c κs within =
    let clients = lent _ _ _ _ c.load-client_lanes.result.ok.0 c.args.clients.now.ok.0
    c.load-client_lanes.ensures.seats in
    let engines = lent _ _ _ _ c.load-engine_lanes.result.ok.0 c.args.engines.now.ok.0
    c.load-engine_lanes.ensures.seats in
    omega (arith, clients, engines, c.requires.workers)

pub run_all-requires-clause-tickets : goal.run_all-requires-clause-tickets
run_all-requires-clause-tickets g c κs within = c.load-engine_lanes.ensures.room

pub unload-requires-clause-seats : goal.unload-requires-clause-seats
unload-requires-clause-seats g c =
    let clients = lent _ _ _ _ c.load-client_lanes.result.ok.0 c.args.clients.now.ok.0
    c.load-client_lanes.ensures.seats in
    let fit : vec_len c.run_all.new.clients ≤ vec_capacity c.load-client_lanes.new.seats =
    omega (arith, clients, c.run_all.ensures.len.0, c.load-client_lanes.ensures.room_left) in
    (c.load-client_lanes.ensures.none_left, fit)

pub unload-requires-clause-report : goal.unload-requires-clause-report
unload-requires-clause-report g c =
    let clients = lent _ _ _ _ c.load-client_lanes.result.ok.0 c.args.clients.now.ok.0
    c.load-client_lanes.ensures.seats in
    let r = c.requires.report in (
      omega (arith, clients, c.run_all.ensures.len.0, r.0, r.2),
      omega (arith, clients, c.run_all.ensures.len.0, r.1, r.3),
    )

pub unload-requires-2-clause-seats : goal.unload-requires-2-clause-seats
unload-requires-2-clause-seats g c =
    let engines = lent _ _ _ _ c.load-engine_lanes.result.ok.0 c.args.engines.now.ok.0
    c.load-engine_lanes.ensures.seats in
    let fit : vec_len c.run_all.new.rest.engines ≤ vec_capacity c.load-engine_lanes.new.seats =
    omega (arith, engines, c.run_all.ensures.len.1, c.load-engine_lanes.ensures.room_left) in
    (c.load-engine_lanes.ensures.none_left, fit)

pub unload-requires-2-clause-report : goal.unload-requires-2-clause-report
unload-requires-2-clause-report g c =
    let clients = lent _ _ _ _ c.load-client_lanes.result.ok.0 c.args.clients.now.ok.0
    c.load-client_lanes.ensures.seats in
    let engines = lent _ _ _ _ c.load-engine_lanes.result.ok.0 c.args.engines.now.ok.0
    c.load-engine_lanes.ensures.seats in
    let report = c.args.rooms.report in
    let now = c.unload.new.report in
    let turns = noted (λ l. l.stint.turns) _ _ _ _ _ _ now.turns.ok.0 report.turns.ok.0 c.run_all.new.clients.ok.0
    c.unload.ensures.turns in
    let ends = noted (λ l. l.stint.ended) _ _ _ _ _ _ now.ended.ok.0 report.ended.ok.0 c.run_all.new.clients.ok.0
    c.unload.ensures.ended in
    let same = c.run_all.ensures.len in
    let r = c.requires.report in (
      omega (arith, turns, clients, engines, same.0, same.1, r.0, r.2, c.unload.ensures.room.0),
      omega (arith, ends, clients, engines, same.0, same.1, r.1, r.3, c.unload.ensures.room.1),
    )

pub push_reserved-requires : goal.push_reserved-requires
push_reserved-requires g c =
    let clients = lent _ _ _ _ c.load-client_lanes.result.ok.0 c.args.clients.now.ok.0
    c.load-client_lanes.ensures.seats in
    let engines = lent _ _ _ _ c.load-engine_lanes.result.ok.0 c.args.engines.now.ok.0
    c.load-engine_lanes.ensures.seats in
    let now = c.unload.new.report.turns in
    let some = noted (λ l. l.stint.turns) _ _ _ _ _ _ now.ok.0 c.args.rooms.report.turns.ok.0
    c.run_all.new.clients.ok.0 c.unload.ensures.turns in
    let all = noted (λ l. l.stint.turns) _ _ _ _ _ _ c.unload-2.new.report.turns.ok.0 now.ok.0
    c.run_all.new.rest.engines.ok.0 c.unload-2.ensures.turns in
    omega (
      arith,
      some,
      all,
      clients,
      engines,
      c.run_all.ensures.len.0,
      c.run_all.ensures.len.1,
      c.requires.report.0,
      c.requires.report.2,
      c.unload.ensures.room.0,
      c.unload-2.ensures.room.0,
    )

pub returns-clause-len : goal.returns-clause-len
returns-clause-len g c =
    let all = reported g c in (
      ap (λ z. length z) c.unload.ensures.seats ∙ length-map _ _ ∙ all.clients ∙ c.args.clients.now.ok.0,
      ap (λ z. length z) c.unload-2.ensures.seats ∙ length-map _ _ ∙ all.engines ∙ c.args.engines.now.ok.0,
    )
