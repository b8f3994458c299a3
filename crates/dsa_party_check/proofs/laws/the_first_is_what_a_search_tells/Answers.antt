use Rattle.dsa_party_check.proofs.laws.the_first_is_what_a_search_tells.Goals as goal
use Rattle.dsa_party_check.proofs.Led.{first-of-parties}

pub returns-clause-parties : goal.returns-clause-parties
returns-clause-parties c document d caps fault there has bad = first-of-parties document d caps fault there has bad
