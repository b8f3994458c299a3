use Rattle.std.proofs.Common.{take, map}
use Rattle.dsa_explore.specs.{declared.found.Found.{Found}, Rows.{AddsRows}}
use Rattle.dsa_explore.proofs.rows.add_all.Given as goal

-- the rows before were added
abbrev pub invariant-loop-row : goal.invariant-loop-row
invariant-loop-row l =
    AddsRows l.steps (map (λ (row : Found). row.finding) (take l.row-index l.told)) l.fn.rows.items l.rows.items
