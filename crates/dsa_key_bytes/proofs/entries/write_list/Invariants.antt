use Rattle.std.proofs.Common.{◌≡◌, ◌++◌}
use Rattle.std.specs.List.{flat_map}
use Rattle.dsa_regs.specs.Caps.{list_number}
use Rattle.dsa_store.specs.Content.{chain}
use Rattle.dsa_key_bytes.specs.{Line.{with_numbers}, Marks.{mark_numbers}}
use Rattle.dsa_key_bytes.proofs.entries.write_list.Given as goal

abbrev pub invariant-loop-entry : goal.invariant-loop-entry
invariant-loop-entry g l = record {
  parts : chain l.device.state.work.content (list_number l.device.caps l.fn.list) ≡ l.yielded ++ l.entry-iterator;
  written : l.line ≡ with_numbers l.fn.line (flat_map (mark_numbers l.device.state l.mark) l.yielded);
}
