use Rattle.dsa_check.proofs.report.add_reason.Goals as goal

pub returns-in-OddDigits : goal.returns-in-OddDigits
returns-in-OddDigits c = rw c.in-OddDigits.is c.add_digits.ensures

pub returns-in-ManyDigits : goal.returns-in-ManyDigits
returns-in-ManyDigits c = rw c.in-ManyDigits.is c.add_digits-in-ManyDigits.ensures
