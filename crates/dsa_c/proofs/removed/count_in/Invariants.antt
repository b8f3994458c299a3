use Rattle.dsa_c.proofs.removed.count_in.Given as goal
use Rattle.std.{proofs.Common.{◌≡◌, ◌++◌}, specs.List.{count_by}}
use Rattle.dsa_regs.specs.Caps.{list_number}
use Rattle.dsa_store.specs.Content.{HeldEntry, chain}
use Rattle.dsa_book.specs.Commands.{is_in_scope}
use Rattle.dsa_c.specs.Reasons.{in_32_bits}

abbrev pub invariant-loop-cell : goal.invariant-loop-cell
invariant-loop-cell g l = record {
  parts : chain l.device.state.work.content (list_number l.device.caps l.fn.list) ≡ l.yielded ++ l._cell-iterator;
  count : l.count ≡ in_32_bits (count_by (λ (pair : HeldEntry). is_in_scope l.scope pair.1) l.yielded);
}
