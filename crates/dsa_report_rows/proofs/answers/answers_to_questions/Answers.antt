use Rattle.dsa_report_rows.proofs.answers.answers_to_questions.Goals as goal

pub returns-clause-met : goal.returns-clause-met
returns-clause-met c caps script setup explored question answer is = is.1.0

pub returns-clause-said : goal.returns-clause-said
returns-clause-said c caps script setup explored question answer is = is.1.1

pub returns-clause-none : goal.returns-clause-none
returns-clause-none c caps script setup explored = tt

pub returns-clause-each : goal.returns-clause-each
returns-clause-each c caps script setup explored question answer is = (is, tt)

pub returns-clause-first : goal.returns-clause-first
returns-clause-first c caps script setup explored question answer questions answers are = are.0

pub returns-clause-rest : goal.returns-clause-rest
returns-clause-rest c caps script setup explored question answer questions answers are = are.1
