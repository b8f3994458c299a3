use Rattle.dsa_report_rows.proofs.texts.lines_of_starts.Goals as goal

pub returns : goal.returns
returns c = record { run = λ line bytes text start. start.of_run }
