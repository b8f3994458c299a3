use Rattle.dsa_scenario.proofs.run.event_for.Goals as goal
use Rattle.std.proofs.Common.{refl}

pub returns-in-Finish : goal.returns-in-Finish
returns-in-Finish c = λ before is. rw (c.in-Finish.is, c.finish_of.ensures before is) refl
