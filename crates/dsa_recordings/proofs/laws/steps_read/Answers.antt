use Rattle.dsa_recordings.proofs.laws.steps_read.Goals as goal
use Rattle.dsa_recordings.proofs.StepObjects.{answers, asks}

pub returns-clause-asks : goal.returns-clause-asks
returns-clause-asks c = λ askable. asks c.args.step.now askable

pub returns-clause-answer : goal.returns-clause-answer
returns-clause-answer c = answers c.args.step.now
