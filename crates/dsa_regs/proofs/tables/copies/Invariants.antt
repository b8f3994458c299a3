use Rattle.dsa_regs.proofs.tables.copies.Given as goal
use Rattle.std.proofs.Common.{◌≡◌, replicate}

abbrev pub invariant-loop : goal.invariant-loop
invariant-loop g l = l.items.items ≡ replicate l.counter l.item
