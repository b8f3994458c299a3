use Rattle.dsa_c.proofs.awaited.write_names_of.Given as goal
use Rattle.std.proofs.Common.{◌≡◌, ◌++◌, ℕ, List}
use Rattle.dsa_regs.specs.Caps.{list_number}
use Rattle.dsa_store.specs.Content.{chain}
use Rattle.dsa_admin.specs.Admin.{is_waited_for}
use Rattle.dsa_explain.specs.Held.{names_where}
use Rattle.dsa_c.specs.Buffers.{with_items_from}

abbrev pub invariant-loop-cell : goal.invariant-loop-cell
invariant-loop-cell g l = record {
  parts : chain l.device.state.work.content (list_number l.device.caps l.fn.list) ≡ l.yielded ++ l._cell-iterator;
  names : (rest : List ℕ) → with_items_from l.next rest l.names
      ≡ with_items_from l.place (names_where (is_waited_for l.noted) l.yielded ++ rest) l.initial.names;
}
