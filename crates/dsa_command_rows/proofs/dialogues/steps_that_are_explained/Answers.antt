use Rattle.dsa_command_rows.proofs.dialogues.steps_that_are_explained.Goals as goal

pub returns : goal.returns
returns c = record { one_too_many = λ are. are.1 }
