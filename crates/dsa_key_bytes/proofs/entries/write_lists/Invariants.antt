use Rattle.std.proofs.Common.{◌≡◌, ◌∷◌, take, length, slice_index}
use Rattle.std.specs.List.{flat_map}
use Rattle.dsa_key_bytes.specs.{Line.{with_numbers}, Marks.{label_numbers}}
use Rattle.dsa_key_bytes.proofs.entries.write_lists.Given as goal

abbrev pub invariant-loop-number : goal.invariant-loop-number
invariant-loop-number g l = let content = l.device.state.work.content in
    l.line ≡ with_numbers l.fn.line
    (length content ∷ flat_map (label_numbers (slice_index l.labels)) (take l.number content))
