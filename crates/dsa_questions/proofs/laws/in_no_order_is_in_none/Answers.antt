use Rattle.dsa_questions.proofs.laws.in_no_order_is_in_none.Goals as goal
use Rattle.dsa_parties.specs.Offers.{parties_of}
use Rattle.dsa_explore.specs.Asks.{ask_of}
use Rattle.dsa_questions.proofs.Outlooks.{in-no-order}

pub returns : goal.returns
returns c caps script setup explored conditions search =
    in-no-order (parties_of script) (ask_of script) search.first explored conditions search.findings
