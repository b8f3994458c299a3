use Rattle.dsa_admin.proofs.refusals.standing_reason.Goals as goal
use Rattle.std.proofs.{Common.{◌≡◌, rules, true, sym, ◌∙◌, refl}}
use Rattle.dsa_regs.specs.Command.{queues_in}
use Rattle.dsa_book.specs.{State.{is_on, phase_at}, Commands.{suits}}
use Rattle.dsa_admin.proofs.Refusing.{all_stand, one_stands_not}

pub returns-in_err-queue : goal.returns-in_err-queue
returns-in_err-queue c =
    let on : is_on c.args.queues.now.setup.device ≡ true = search rules in
    c.from_residual.ensures
    ∙ sym (all_stand (λ q. suits c.args.deed (phase_at c.args.queues.now.setup q))
    (queues_in c.args.scope.now) _ _ on (sym c.unsuited_queue.ensures ∙ c.in_err-queue.was))

pub returns : goal.returns
returns c =
    let on : is_on c.args.queues.now.setup.device ≡ true = search rules in
    let found = sym c.unsuited_queue.ensures ∙ c.in_ok-queue.was in
    sym (one_stands_not (λ q. suits c.args.deed (phase_at c.args.queues.now.setup q))
    (queues_in c.args.scope.now) _ _ _ on found ∙ rw (on, found, c.phase_of.ensures) refl)
