use Rattle.std.proofs.Common.{take, map}
use Rattle.dsa_keys.specs.Labels.{labelled_row}
use Rattle.dsa_explore.specs.{Findings.{removal_told}, Rows.{AddsRows, labels_of}}
use Rattle.dsa_explore.proofs.rows.add_removals.Given as goal

-- the removals before were added
abbrev pub invariant-loop-end : goal.invariant-loop-end
invariant-loop-end l =
    AddsRows l.steps (map (removal_told l.act) (map (labelled_row (labels_of l.labels)) (take l.end-index l.ends)))
    l.fn.rows.items l.rows.items
