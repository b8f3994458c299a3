use Rattle.std.proofs.Common.{take}
use Rattle.dsa_conform.specs.ToldLines.{HasText}
use Rattle.dsa_conform.proofs.told.has_text.Given as goal

-- none of the lines before has the text
abbrev pub invariant-loop-line : goal.invariant-loop-line
invariant-loop-line l = ¬ HasText (take l.line-index l.lines) l.text
