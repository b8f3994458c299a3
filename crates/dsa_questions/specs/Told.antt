-- An answer of the program.
use Rattle.dsa_questions.specs.declared.verdicts.Answered.{Answered}
use Rattle.dsa_questions.specs.Verdicts.{Answer}

abbrev pub as_answer : Answered → Answer
as_answer answered = record { kind = answered.kind; name = answered.name.now; outlook = answered.outlook }
