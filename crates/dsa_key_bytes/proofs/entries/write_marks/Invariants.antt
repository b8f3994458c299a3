use Rattle.std.proofs.Common.{◌≡◌, take}
use Rattle.std.specs.List.{flat_map}
use Rattle.dsa_store.specs.Content.{all_held}
use Rattle.dsa_key_bytes.specs.{Line.{with_numbers}, Marks.{mark_numbers}}
use Rattle.dsa_key_bytes.proofs.entries.write_marks.Given as goal

abbrev pub invariant-loop-number : goal.invariant-loop-number
invariant-loop-number g l =
    l.line ≡ with_numbers l.fn.line (flat_map (mark_numbers l.device.state l.mark) (all_held (take l.number l.device.state.work.content)))
