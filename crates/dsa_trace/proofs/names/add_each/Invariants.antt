use Rattle.dsa_trace.proofs.names.add_each.Given as goal
use Rattle.std.proofs.Common.{◌≡◌, ◌++◌, string_bytes}
use Rattle.dsa_trace.specs.Names.{entry_names_text}
use Rattle.dsa_trace.proofs.Listed.{comma_after}

-- behind the names so far comes a comma, where there are any
abbrev pub invariant-loop-cell : goal.invariant-loop-cell
invariant-loop-cell g l = record {
  parts : l.fn.entries ≡ l.yielded ++ l._cell-iterator;
  separator : l.separator ≡ comma_after l.yielded;
  told : string_bytes l.text ≡ string_bytes l.initial.text ++ entry_names_text l.yielded;
}
