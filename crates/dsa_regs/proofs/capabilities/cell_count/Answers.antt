use Rattle.dsa_regs.proofs.capabilities.cell_count.Goals as goal
use Rattle.std.proofs.{Common.{arith}, lemmas.Grind.{common_steps}}
use Rattle.dsa_regs.proofs.CapsLemmas.{cell_count-bound}

pub returns-clause-bound : goal.returns-clause-bound
returns-clause-bound c = let bound = cell_count-bound c.args.caps.now c.requires in grind (arith, common_steps, bound)
