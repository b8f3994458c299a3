use Rattle.std.proofs.Common.{take}
use Rattle.dsa_explore.specs.{Findings.{ends_of}, Rows.{AddsRows, labels_of}}
use Rattle.dsa_explore.proofs.rows.add_ends.Given as goal

-- the ends before were added
abbrev pub invariant-loop-end : goal.invariant-loop-end
invariant-loop-end l =
    AddsRows l.steps (ends_of (labels_of l.labels) (take l.end-index l.ends)) l.fn.rows.items l.rows.items
