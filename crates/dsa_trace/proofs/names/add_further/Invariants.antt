use Rattle.dsa_trace.proofs.names.add_further.Given as goal
use Rattle.std.proofs.Common.{◌≡◌, ◌++◌, string_bytes, flat_map}
use Rattle.dsa_trace.specs.Names.{further_name}

abbrev pub invariant-loop-cell : goal.invariant-loop-cell
invariant-loop-cell g l = record {
  parts : l.fn.entries ≡ l.yielded ++ l._cell-iterator;
  told : string_bytes l.text ≡ string_bytes l.initial.text ++ flat_map further_name l.yielded;
}
