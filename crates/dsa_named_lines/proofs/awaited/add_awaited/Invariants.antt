use Rattle.dsa_named_lines.proofs.awaited.add_awaited.Given as goal
use Rattle.std.proofs.Common.{◌≡◌, ◌++◌}
use Rattle.dsa_regs.specs.Caps.{list_number}
use Rattle.dsa_store.specs.Content.{chain}
use Rattle.dsa_admin.specs.Admin.{is_waited_for}
use Rattle.dsa_explain.specs.Held.{names_where}

abbrev pub invariant-loop-cell : goal.invariant-loop-cell
invariant-loop-cell g l = record {
  parts : chain l.device.state.work.content (list_number l.device.caps l.fn.list) ≡ l.yielded ++ l._cell-iterator;
  names : l.names.items ≡ l.initial.names.items ++ names_where (is_waited_for l.noted) l.yielded;
}
