use Rattle.dsa_keys.proofs.laws.worlds_with_equal_keys_make_the_same_moves.Goals as goal
use Rattle.dsa_keys.proofs.Parties.{worlds-answer}

pub returns : goal.returns
returns c caps parties good w w' v move reply lawful is_good is_good' keys leads =
    worlds-answer caps parties good lawful w w' v move reply is_good is_good' keys leads
