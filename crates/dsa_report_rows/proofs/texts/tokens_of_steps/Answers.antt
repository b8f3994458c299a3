use Rattle.dsa_report_rows.proofs.texts.tokens_of_steps.Goals as goal

pub returns : goal.returns
returns c = record { flat = λ old new actions reads. reads.shallow }
