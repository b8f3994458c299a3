use Rattle.dsa_admin.proofs.abort.reset_scope.Goals as goal
use Rattle.std.proofs.Common.{ap, sym, ◌∙◌}
use Rattle.dsa_regs.specs.Command.{queues_in}
use Rattle.dsa_book.specs.{State.{Setup}, Commands.{with_sizes_alone}}
use Rattle.dsa_queues.specs.Queues.{Kept}
use Rattle.dsa_admin.proofs.Resizing.{reset-named}

pub returns-in_default : goal.returns-in_default
returns-in_default c =
    c.keep_sizes.ensures
    ∙ ap (λ (k : Kept). record k { setup = with_sizes_alone (queues_in c.args.scope.now) k.setup }) c.set_phases.ensures
    ∙ ap (λ (s : Setup). record c.args.queues.now { setup = s })
    (sym (reset-named c.args.scope.now c.args.queues.now.setup c.in_default.not-Device))
