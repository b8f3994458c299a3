use Rattle.dsa_statement_rows.proofs.kept.tables_that_are_kept.Goals as goal

pub returns-clause-begun : goal.returns-clause-begun
returns-clause-begun c caps script setup searched keeps = keeps.begun

pub returns-clause-count : goal.returns-clause-count
returns-clause-count c caps script setup searched keeps = keeps.count

pub returns-clause-ways : goal.returns-clause-ways
returns-clause-ways c caps script setup searched keeps = keeps.ways

pub returns-clause-worlds : goal.returns-clause-worlds
returns-clause-worlds c caps script setup searched x keeps within = keeps.worlds x within

pub returns-clause-by_level : goal.returns-clause-by_level
returns-clause-by_level c caps script setup searched keeps = keeps.by_level

pub returns-clause-all : goal.returns-clause-all
returns-clause-all c caps script setup searched w keeps complete reached = keeps.all complete 3 w reached

pub returns-clause-early : goal.returns-clause-early
returns-clause-early c caps script setup searched x keeps within = keeps.early x within
