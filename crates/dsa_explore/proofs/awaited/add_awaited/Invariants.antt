use Rattle.std.proofs.Common.{◌≡◌, ◌++◌}
use Rattle.dsa_explore.specs.{Findings.{awaited_among}, Rows.{labels_of}}
use Rattle.dsa_explore.proofs.awaited.add_awaited.Given as goal

-- what was added and what is left are all
abbrev pub invariant-loop-entry : goal.invariant-loop-entry
invariant-loop-entry g l = l.found.items ++ awaited_among (labels_of l.labels) l.device.state.active l.entries
    ≡ l.fn.found.items ++ awaited_among (labels_of l.labels) l.device.state.active l.fn.entries
