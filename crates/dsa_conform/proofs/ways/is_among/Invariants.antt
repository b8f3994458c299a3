use Rattle.std.proofs.Common.{take}
use Rattle.dsa_conform.specs.Ways.{IsAmong}
use Rattle.dsa_conform.proofs.ways.is_among.Given as goal

-- none of the devices before is alike
abbrev pub invariant-loop-other : goal.invariant-loop-other
invariant-loop-other l = ¬ IsAmong l.way.device (take l.other-index l.ways)
