use Rattle.dsa_admin.proofs.refusals.named_reason.Goals as goal
use Rattle.std.proofs.{Common.{◌≡◌, length, nat_le, false, sym, ◌∙◌, arith}, lemmas.Grind.{common_steps}}
use Rattle.dsa_regs.specs.Command.{queues_in}
use Rattle.dsa_admin.proofs.Refusing.{none_named, all_known, one_missing}

pub returns-then-is_empty : goal.returns-then-is_empty
returns-then-is_empty c =
    let none : length (queues_in c.args.scope.now) ≡ 0 = grind (arith, common_steps) in
    sym (none_named c.args.queues.now.setup (queues_in c.args.scope.now) none)

pub returns-in_err-queue : goal.returns-in_err-queue
returns-in_err-queue c =
    let some : nat_le (length (queues_in c.args.scope.now)) 0 ≡ false = grind (arith, common_steps) in
    c.from_residual.ensures ∙ sym (all_known c.args.queues.now.setup (queues_in c.args.scope.now) _ some
    (sym c.missing_queue.ensures ∙ c.in_err-queue.was))

pub returns : goal.returns
returns c =
    let some : nat_le (length (queues_in c.args.scope.now)) 0 ≡ false = grind (arith, common_steps) in
    sym (one_missing c.args.queues.now.setup (queues_in c.args.scope.now) _ some
    (sym c.missing_queue.ensures ∙ c.in_ok-queue.was))
