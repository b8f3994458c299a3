use Rattle.std.proofs.Common.{◌≡◌, ◌++◌, take}
use Rattle.std.specs.List.{flat_map}
use Rattle.dsa_explore.specs.Keys.{mark_bytes}
use Rattle.dsa_explore.proofs.keys.add_marks.Given as goal

-- the bytes of the marks before were added
abbrev pub invariant-loop-mark : goal.invariant-loop-mark
invariant-loop-mark l = l.out.items ≡ l.fn.out.items ++ flat_map mark_bytes (take l.mark-index l.came)
