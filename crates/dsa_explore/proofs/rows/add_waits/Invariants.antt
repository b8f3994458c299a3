use Rattle.std.proofs.Common.{take, map}
use Rattle.dsa_explore.specs.{declared.found.Finding.TheVariants.{Wait}, Rows.{AddsRows}}
use Rattle.dsa_explore.proofs.rows.add_waits.Given as goal

-- the waits before were added
abbrev pub invariant-loop-label : goal.invariant-loop-label
invariant-loop-label l =
    AddsRows l.steps (map (Wait l.act) (take l.label-index l.awaited)) l.fn.rows.items l.rows.items
