use Rattle.dsa_statement_rows.proofs.kept.rows_that_are_kept.Goals as goal

pub returns-clause-told : goal.returns-clause-told
returns-clause-told c caps script setup searched keeps = keeps.told

pub returns-clause-room : goal.returns-clause-room
returns-clause-room c caps script setup searched row keeps within = keeps.room row within
