use Rattle.dsa_cli.proofs.rows.totals_written.Goals as goal
use Rattle.std.proofs.Common.{[], refl}
use Rattle.clap.proofs.OnLiterals.{clap_on_literals}
use Rattle.dsa_cli.proofs.DecidedLoads.{in_range, numbers_of}
use Rattle.dsa_cli.specs.{CommandLine.{AreNumbersOf}, Worked.{load}}

-- where no option has a text, any numbers will do
numbers : AreNumbersOf [] (load 1 2 3 4)
unfolding clap_on_literals
numbers = numbers_of [] (load 1 2 3 4) refl

pub returns-clause-all : goal.returns-clause-all
returns-clause-all c totals run = (load 1 2 3 4, totals, numbers, in_range _ refl, run, refl)

pub returns-clause-written : goal.returns-clause-written
returns-clause-written c rows old new are = (are.2, are.3, are.4, are.5)

pub returns-clause-first_bytes : goal.returns-clause-first_bytes
returns-clause-first_bytes c totals run more = (load 1 2 3 4, totals, 3, numbers, in_range _ refl, run, more, refl)

pub returns-clause-cut : goal.returns-clause-cut
returns-clause-cut c rows old new are = (are.3, are.4, are.5, are.6, are.7)
