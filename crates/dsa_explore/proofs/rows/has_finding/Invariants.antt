use Rattle.std.proofs.Common.{◌≡◌, take}
use Rattle.dsa_base.specs.Lists.{In}
use Rattle.dsa_explore.specs.declared.found.Found.{Found}
use Rattle.dsa_explore.proofs.rows.has_finding.Given as goal

-- no row before has the finding
abbrev pub invariant-loop-row : goal.invariant-loop-row
invariant-loop-row l = (row : Found) → In row (take l.row-index l.rows) → row.finding ≡ l.finding → ⊥
