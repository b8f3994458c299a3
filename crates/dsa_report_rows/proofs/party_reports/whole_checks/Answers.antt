use Rattle.dsa_report_rows.proofs.party_reports.whole_checks.Goals as goal

pub returns-clause-run : goal.returns-clause-run
returns-clause-run c check bytes text is = is.run

pub returns-clause-parties : goal.returns-clause-parties
returns-clause-parties c check bytes text is = is.parties

pub returns-clause-fault : goal.returns-clause-fault
returns-clause-fault c check bytes text is = is.fault_told

pub returns-clause-both : goal.returns-clause-both
returns-clause-both c check bytes text is = is.both
