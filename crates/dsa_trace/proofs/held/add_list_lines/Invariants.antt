use Rattle.dsa_trace.proofs.held.add_list_lines.Given as goal
use Rattle.std.proofs.Common.{◌≡◌, ◌++◌, string_bytes, flat_map}
use Rattle.dsa_store.specs.Content.{chain}
use Rattle.dsa_trace.specs.Held.{held_line}

abbrev pub invariant-loop-pair : goal.invariant-loop-pair
invariant-loop-pair g l = record {
  parts : chain l.device.state.work.content l.number ≡ l.yielded ++ l.pair-iterator;
  told : string_bytes l.text
      ≡ string_bytes l.initial.text ++ flat_map (held_line l.form l.list) l.yielded;
}
