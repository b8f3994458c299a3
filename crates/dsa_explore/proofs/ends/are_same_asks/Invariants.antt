use Rattle.std.proofs.Common.{◌≡◌, take}
use Rattle.dsa_explore.proofs.ends.are_same_asks.Given as goal

-- those before are the same
abbrev pub invariant-loop-i : goal.invariant-loop-i
invariant-loop-i l = take l.i l.asks ≡ take l.i l.others
