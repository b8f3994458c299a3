use Rattle.dsa_report_rows.proofs.walk_texts.walks_that_cannot_be_made.Goals as goal
use Rattle.std.proofs.Common.{refl}

pub returns-clause-setup : goal.returns-clause-setup
returns-clause-setup c form walks bytes bad = (refl, bad)

pub returns-clause-no_parties : goal.returns-clause-no_parties
returns-clause-no_parties c form walks bytes bad = (refl, bad)

pub returns-clause-parties : goal.returns-clause-parties
returns-clause-parties c form walks bytes bad = (refl, bad)

pub returns-clause-party : goal.returns-clause-party
returns-clause-party c form walks bytes bad = (refl, bad)

pub returns-clause-many : goal.returns-clause-many
returns-clause-many c form walks bytes bad = (refl, bad)

pub returns-clause-question : goal.returns-clause-question
returns-clause-question c form walks bytes bad = (refl, bad)
