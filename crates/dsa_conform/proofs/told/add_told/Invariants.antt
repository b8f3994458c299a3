use Rattle.std.proofs.Common.{take}
use Rattle.dsa_conform.specs.ToldLines.{AddsLines}
use Rattle.dsa_conform.proofs.told.add_told.Given as goal

-- the lines of the answers before were added
abbrev pub invariant-loop-entry : goal.invariant-loop-entry
invariant-loop-entry l = AddsLines l.initial.lines.items l.lines.items l.told (take l.entry-index l.told.allowed.items)
