use Rattle.dsa_cli.proofs.threads.run_shared.Goals as goal
use Rattle.std.proofs.Common.{◌≡◌, List, take, ◌∙◌, ap, subst, arith}
use Rattle.std.specs.Prelude.{All}
use Rattle.dsa_book.specs.declared.event.{Step.{Step}, Actor.TheVariants.{Admin}}
use Rattle.dsa_book.specs.Totals.{actor_of}
use Rattle.dsa_device.specs.Running.{Running}
use Rattle.dsa_shared.specs.Seat.{AllFresh}
use Rattle.dsa_cli.proofs.ThreadTotals.{totals_of-worked}

pub run_seats-requires-clause-engines : goal.run_seats-requires-clause-engines
run_seats-requires-clause-engines g c κs within =
    subst (λ n. AllFresh n c.in-Ok.made.1.engines.items) (ap (λ (d : Running). d.caps.engines) c.requires.device)
    c.in-Ok.ensures.engines

pub returns-then-admin_was_first-clause-ok : goal.returns-then-admin_was_first-clause-ok
returns-then-admin_was_first-clause-ok g c =
    let settled = c.in-Ok-settle.ensures in
    let first : All (λ (step : Step). actor_of step.event ≡ Admin) (take 4 c.in-Ok-settle.settled.device.history) =
    subst (λ (l : List Step). All (λ (step : Step). actor_of step.event ≡ Admin) (take 4 l)) c.history.ensures
    (c.admin_was_first.ensures c.if-admin_was_first.true) in
    totals_of-worked _ _ c.args.load.now _ _ _ _ _ c.in_ok-run_seats.ensures.ok
    (c.requires.sharing.0 ∙ ap (λ (d : Running). d.caps) c.requires.device)
    (c.requires.sharing.1 ∙ ap (λ (d : Running). d.capacity) c.requires.device)
    settled.caps settled.replay settled.matched settled.totals settled.sums settled.balance first
    (omega (arith, c.if-settled-gt0.true))
