use Rattle.dsa_command_rows.proofs.checks.keys_before_values.Goals as goal

pub returns : goal.returns
returns c = record { gap = λ text key d begin at. at.gap }
