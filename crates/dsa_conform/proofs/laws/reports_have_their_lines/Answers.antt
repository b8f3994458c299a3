use Rattle.dsa_conform.proofs.laws.reports_have_their_lines.Goals as goal
use Rattle.dsa_conform.proofs.Reports.{all_reported, report}

pub returns-clause-first : goal.returns-clause-first
returns-clause-first c = report

pub returns-clause-all : goal.returns-clause-all
returns-clause-all c = all_reported
