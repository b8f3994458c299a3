use Rattle.dsa_named_trace.proofs.shown.add_names_in_list.Given as goal
use Rattle.std.proofs.Common.{◌≡◌, ◌++◌, map}
use Rattle.dsa_store.specs.Content.{HeldEntry, chain}

abbrev pub invariant-loop-cell : goal.invariant-loop-cell
invariant-loop-cell g l = record {
  parts : chain l.device.state.work.content l.number ≡ l.yielded ++ l._cell-iterator;
  names : l.names.items ≡ l.initial.names.items ++ map (λ (held : HeldEntry). held.1.name) l.yielded;
}
