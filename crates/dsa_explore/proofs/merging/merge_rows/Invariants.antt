use Rattle.std.proofs.Common.{take}
use Rattle.dsa_explore.specs.Walking.{AreMerged}
use Rattle.dsa_explore.proofs.merging.merge_rows.Given as goal

-- those before are there
abbrev pub invariant-loop-row : goal.invariant-loop-row
invariant-loop-row l = AreMerged l.fn.rows.items (take l.row-index l.more) l.rows.items
