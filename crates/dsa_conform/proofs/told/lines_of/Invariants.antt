use Rattle.std.proofs.Common.{take}
use Rattle.dsa_conform.specs.ToldLines.{AreLinesTold}
use Rattle.dsa_conform.proofs.told.lines_of.Given as goal

-- the lines of what the devices before allow
abbrev pub invariant-loop-told : goal.invariant-loop-told
invariant-loop-told l = AreLinesTold (take l.told-index l.tolds) l.lines.items
