use Rattle.dsa_admin.proofs.admin.enable.Goals as goal
use Rattle.std.proofs.Common.{◌≡◌, ◌==◌, true, subst}
use Rattle.dsa_regs.specs.declared.{Deed.TheVariants.{Enable}, Phase.TheVariants.{On}, Scope.{Scope}}
use Rattle.dsa_book.specs.Commands.{may_come}
use Rattle.dsa_admin.proofs.Commands.{in_step-phases}

pub returns-in-Device-clause-in_step : goal.returns-in-Device-clause-in_step
returns-in-Device-clause-in_step c = λ cells content s.
    let off = subst (λ (k : Scope). may_come c.args.queues.now.setup Enable k
    ≡ true) c.in-Device.is c.requires.unrefused.ready in
    c.enable.ensures.in_step cells content (rw c.set_device.ensures s.store) (s.idle off)

pub returns-in-Queue-clause-in_step : goal.returns-in-Queue-clause-in_step
returns-in-Queue-clause-in_step c = λ cells content s.
    rw c.set_phase.ensures.alone (in_step-phases
    (λ q. q == c.in-Queue.queue) On c.args.queues.now.setup c.args.engines.now content s)
