use Rattle.std.proofs.Common.{◌≡◌, drop}
use Rattle.dsa_parties.specs.Watches.{is_to_do}
use Rattle.dsa_parties.proofs.watches.is_to_do.Given as goal

-- it is left to see that one of the others has still to do it
abbrev pub invariant-loop-number : goal.invariant-loop-number
invariant-loop-number l = is_to_do l.act l.parts l.nexts ≡ is_to_do l.act (drop l.number l.parts) (drop l.number l.nexts)
