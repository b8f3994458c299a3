use Rattle.dsa_admin.proofs.abort.reset.Goals as goal
use Rattle.std.proofs.Common.{◌≡◌, not, sym, ap}
use Rattle.dsa_regs.specs.Command.{scope_of}
use Rattle.dsa_store.specs.Content.{only_where}
use Rattle.dsa_book.specs.{State.{Work}, Commands.{is_in_scope}}
use Rattle.dsa_admin.proofs.{Resizing.{in_step-reset}, Counting.{counted-caps, reset-caps}}

pub returns-clause-in_step : goal.returns-clause-in_step
returns-clause-in_step g c =
    let left : g.S.EntryStore.content c.abort-aborted.new.store
    ≡ only_where (λ entry. not (is_in_scope (scope_of c.args.command.now) entry))
    (g.S.EntryStore.content c.args.store.now) = sym (ap (λ (w : Work). w.content) c.abort-aborted.ensures.work) in
    rw (c.reset_scope.ensures, c.scope.ensures)
    (in_step-reset (scope_of c.args.command.now) c.abort-aborted.new.queues.setup _
    (g.S.EntryStore.content c.args.store.now) _ left c.abort-aborted.ensures.in_step)

pub returns-clause-counted : goal.returns-clause-counted
returns-clause-counted g c = rw (c.reset_scope.ensures, c.scope.ensures) (counted-caps c.abort-aborted.new.queues _
    (g.S.EntryStore.content c.abort-aborted.new.store)
    (reset-caps (scope_of c.args.command.now) c.abort-aborted.new.queues.setup) c.abort-aborted.ensures.counted)
