use Rattle.std.proofs.Common.{◌≤◌, take}
use Rattle.dsa_base.specs.Lists.{In}
use Rattle.dsa_conform.specs.Allowed.{queue_taken}
use Rattle.dsa_conform.specs.declared.told.Line.{Line}
use Rattle.dsa_conform.proofs.told.place_of.Given as goal

-- no line before is of a higher queue
abbrev pub invariant-loop-k : goal.invariant-loop-k
invariant-loop-k l = (line : Line) → In line (take l.k l.lines) → queue_taken line.entry ≤ l.queue
