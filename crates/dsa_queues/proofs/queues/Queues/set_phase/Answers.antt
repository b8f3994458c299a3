use Rattle.dsa_queues.proofs.queues.Queues.set_phase.Goals as goal
use Rattle.std.proofs.{Common.{arith}, lemmas.Grind.{common_steps}}
use Rattle.dsa_regs.specs.declared.Phase.TheVariants.{Off}
use Rattle.dsa_base.proofs.Renewing.{renewed-one}

pub returns-clause-alone : goal.returns-clause-alone
returns-clause-alone c =
    let one = renewed-one c.self.inside.phases.items c.args.queue c.args.phase Off c.self.inside.caps.queues in
    grind (arith, common_steps, one, c.requires, c.self.view_is, c.self.invariant.whole)
