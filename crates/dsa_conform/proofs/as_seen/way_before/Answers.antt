use Rattle.dsa_conform.proofs.as_seen.way_before.Goals as goal
use Rattle.dsa_conform.proofs.ToldAgain.{read_before}

pub walk_steps-requires : goal.walk_steps-requires
walk_steps-requires c = read_before c.args.head.now.steps.now c.args.count c.requires.read
