use Rattle.dsa_admin.proofs.abort.abort.Goals as goal
use Rattle.std.proofs.Common.{◌≡◌, ◌+◌, arith, ap}
use Rattle.dsa_regs.specs.{Caps.{cell_count}, Command.{scope_of}}
use Rattle.dsa_store.specs.Content.{held_count}
use Rattle.dsa_book.specs.{State.{Setup}, Commands.{count_in_scope}}
use Rattle.dsa_admin.proofs.Withdrawals.{held-kept}
use Rattle.dsa_admin.proofs.abort.abort.{Given.{Over}, Goals.{After-free}}

-- what is taken out leaves as many cells free
freed : (g : Over) (c : After-free g) → c.free.result
    ≡ c.free-free.result + count_in_scope (scope_of c.args.command.now) (g.S.EntryStore.content c.args.store.now)
freed g c =
    omega (
      arith,
      held-kept c.args.command.now (g.S.EntryStore.content c.args.store.now),
      c.free-free.ensures,
      c.free.ensures,
      c.withdraw.ensures.in_step.store.cells,
      c.requires.in_step.store.cells,
      ap held_count c.withdraw.ensures.left,
      ap (λ (s : Setup). cell_count s.caps) c.withdraw.ensures.setup,
    )

pub overflow_sub-result : goal.overflow_sub-result
overflow_sub-result g c = omega (arith, freed g (goal.at.overflow_sub-result g c).After-free)

pub returns-clause-count : goal.returns-clause-count
returns-clause-count g c = omega (arith, freed g (goal.at.returns-clause-count g c).After-free)
