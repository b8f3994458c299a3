use Rattle.dsa_report_rows.proofs.walk_texts.faults_of_random_walks.Goals as goal

pub returns-clause-incomplete : goal.returns-clause-incomplete
returns-clause-incomplete c form walks bytes text is = is

pub returns-clause-broken : goal.returns-clause-broken
returns-clause-broken c form walks bytes text is = is
