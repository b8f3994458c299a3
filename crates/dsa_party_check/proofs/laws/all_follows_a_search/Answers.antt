use Rattle.dsa_party_check.proofs.laws.all_follows_a_search.Goals as goal
use Rattle.dsa_party_check.proofs.Asked.{first-of-all, first-of-questions, none-of-questions}

pub returns-clause-parties : goal.returns-clause-parties
returns-clause-parties c document d caps fault there has bad = first-of-all document d caps fault there has bad

pub returns-clause-questions : goal.returns-clause-questions
returns-clause-questions c document d caps script fault there has read bad =
    first-of-questions document d caps script there has read fault bad

pub returns-clause-none : goal.returns-clause-none
returns-clause-none c document d caps script inquiry there has read good =
    none-of-questions document d caps script there has read inquiry good
