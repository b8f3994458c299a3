use Rattle.dsa_cli.proofs.threads.run_seats.Goals as goal
use Rattle.std.proofs.Common.{◌≡◌, ◌≢◌, ◌+◌, ◌++◌, ◌∙◌, ap, true, List, [], refl, rules, subst}
use Rattle.std.proofs.Common.{arith}
use Rattle.dsa_workers.specs.declared.scripts.WorkerEnd.{WorkerEnd}
use Rattle.dsa_workers.specs.declared.scripts.WorkerEnd.TheVariants.{TurnsOut, HistoryFull}
use Rattle.std.specs.Prelude.{All}
use Rattle.dsa_cli.{specs.Threads.{setup_steps}, proofs.ThreadTotals.{have_worked}}
use Rattle.dsa_book.specs.declared.event.Step.{Step}
use Rattle.std.proofs.lemmas.Grind.{common_steps}

pub returns-then-none_full-clause-ok : goal.returns-then-none_full-clause-ok
returns-then-none_full-clause-ok g c =
    let ran = c.in-Ok.ensures in
    let none : All (λ (end : WorkerEnd). end ≢ HistoryFull) c.in-Ok.report.ended.items =
    subst (λ (xs : List WorkerEnd). All (λ (end : WorkerEnd). end ≢ HistoryFull) xs) c.deref.ensures.value
    (c.none_full.ensures.0 c.if-none_full.true) in
    let begun : c.in-Some.admin.now ≡ [] = search rules in
    let done : c.set_up.result ≡ true = search rules in
    have_worked _ _ c.args.load.now c.in_ok-scripts.scripts _ _ _ _ _ _ _ _ _ _
    c.requires.clients c.requires.engines c.in_ok-scripts.ensures
    refl (c.set_up.ensures.done done ∙ ap (λ (l : List Step). l ++ setup_steps c.args.load.now) begun)
    ran.back.0 ran.back.1 ran.clients ran.engines ran.admin
    (λ k lt. none k TurnsOut (omega (arith, lt, ran.items.1)))
    (λ k lt. none (c.args.seats.now.clients.len + k) TurnsOut (omega (arith, lt, ran.items.1)))

pub unreachable-requires-in-Err-ScriptCount : goal.unreachable-requires-in-Err-ScriptCount
unreachable-requires-in-Err-ScriptCount = grind (arith, common_steps)
