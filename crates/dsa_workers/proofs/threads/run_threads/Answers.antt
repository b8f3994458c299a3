use Rattle.dsa_workers.proofs.threads.run_threads.Goals as goal
use Rattle.std.proofs.Common.{◌∙◌, sym, refl, arith}

pub returns-then-len-clause-script_count : goal.returns-then-len-clause-script_count
returns-then-len-clause-script_count g c =
    (λ e fits. c.if-len.true (c.len.ensures ∙ fits.each_client ∙ sym c.len-2.ensures), λ no. refl)

pub returns-then-len-2-clause-script_count : goal.returns-then-len-2-clause-script_count
returns-then-len-2-clause-script_count g c =
    (λ e fits. c.if-len-2.true (c.len-3.ensures ∙ fits.each_engine ∙ sym c.len-4.ensures), λ no. refl)

pub new-requires : goal.new-requires
new-requires g c =
    let clients = c.args.seats.now.clients in
    let engines = c.args.seats.now.engines in
    omega (arith, c.len-5.ensures, c.len-6.ensures, clients.ok.1, clients.small, engines.ok.1, engines.small)

pub run_loaded-seat-requires-clause-scripts : goal.run_loaded-seat-requires-clause-scripts
run_loaded-seat-requires-clause-scripts g c κs within =
    (sym c.len.ensures ∙ c.if-len.false ∙ c.len-2.ensures, sym c.len-3.ensures ∙ c.if-len-2.false ∙ c.len-4.ensures)

pub run_loaded-seat-requires-clause-workers : goal.run_loaded-seat-requires-clause-workers
run_loaded-seat-requires-clause-workers g c κs within =
    let clients = c.args.seats.now.clients in
    let engines = c.args.seats.now.engines in
    omega (arith, clients.ok.1, clients.small, engines.ok.1, engines.small)

pub run_loaded-seat-requires-clause-client_rooms : goal.run_loaded-seat-requires-clause-client_rooms
run_loaded-seat-requires-clause-client_rooms g c κs within =
    (c.in-Ok.ensures.clients.0 ∙ c.len-5.ensures, c.in-Ok.ensures.clients.1)

pub run_loaded-seat-requires-clause-engine_rooms : goal.run_loaded-seat-requires-clause-engine_rooms
run_loaded-seat-requires-clause-engine_rooms g c κs within =
    (c.in-Ok.ensures.engines.0 ∙ c.len-6.ensures, c.in-Ok.ensures.engines.1)

pub run_loaded-seat-requires-clause-report : goal.run_loaded-seat-requires-clause-report
run_loaded-seat-requires-clause-report g c κs within =
    let r = c.in-Ok.ensures.report in (
      r.0,
      r.1,
      omega (arith, r.2, c.len-5.ensures, c.len-6.ensures),
      omega (arith, r.3, c.len-5.ensures, c.len-6.ensures),
    )

pub returns-clause-back : goal.returns-clause-back
returns-clause-back g c = (c.run_loaded-seat.ensures.len.0, c.run_loaded-seat.ensures.len.1, refl)

pub returns-clause-clients : goal.returns-clause-clients
returns-clause-clients g c = c.run_loaded-seat.ensures.clients

pub returns-clause-engines : goal.returns-clause-engines
returns-clause-engines g c = c.run_loaded-seat.ensures.engines

pub returns-clause-items : goal.returns-clause-items
returns-clause-items g c = c.run_loaded-seat.ensures.items
