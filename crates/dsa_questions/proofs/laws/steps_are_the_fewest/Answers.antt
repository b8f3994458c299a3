use Rattle.dsa_questions.proofs.laws.steps_are_the_fewest.Goals as goal
use Rattle.dsa_parties.specs.Offers.{parties_of}
use Rattle.dsa_explore.specs.Asks.{ask_of}
use Rattle.dsa_questions.proofs.Outlooks.{fewest-steps, some-order}

pub returns-clause-some : goal.returns-clause-some
returns-clause-some c caps script setup explored conditions steps search =
    some-order (parties_of script) (ask_of script) search.first explored conditions search.findings steps

pub returns-clause-fewest : goal.returns-clause-fewest
returns-clause-fewest c caps script setup explored conditions steps others search =
    fewest-steps (parties_of script) (ask_of script) search.first explored conditions search.findings steps others
