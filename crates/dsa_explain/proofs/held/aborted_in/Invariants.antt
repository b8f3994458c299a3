use Rattle.dsa_explain.proofs.held.aborted_in.Given as goal
use Rattle.std.proofs.Common.{◌≡◌, ◌+◌, ◌++◌, filter, length}
use Rattle.dsa_regs.specs.{Caps.{list_number}, Command.{scope_of}}
use Rattle.dsa_store.specs.Content.{HeldEntry, chain}
use Rattle.dsa_book.specs.Commands.{is_in_scope}

abbrev pub invariant-loop-cell : goal.invariant-loop-cell
invariant-loop-cell g l = record {
  parts : chain l.device.state.work.content (list_number l.device.caps l.list) ≡ l.yielded ++ l.cell-iterator;
  count : l.left + length (filter (λ (pair : HeldEntry). is_in_scope (scope_of l.command) pair.1) l.yielded) ≡ l.index;
}
