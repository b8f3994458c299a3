use Rattle.dsa_questions.proofs.laws.questions_are_read_one_by_one.Goals as goal
use Rattle.dsa_questions.specs.Judging.{no_questions}
use Rattle.dsa_questions.proofs.Judged.{formed-question, question-alike}

pub returns-clause-alone : goal.returns-clause-alone
returns-clause-alone c kind names done d = question-alike kind names done no_questions d

pub returns-clause-formed : goal.returns-clause-formed
returns-clause-formed c kind names d is = formed-question kind names d is
