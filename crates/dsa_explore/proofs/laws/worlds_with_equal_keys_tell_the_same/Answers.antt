use Rattle.dsa_explore.proofs.laws.worlds_with_equal_keys_tell_the_same.Goals as goal
use Rattle.dsa_explore.proofs.Reached.{may-come-as}

pub returns : goal.returns
returns c space w v steps finding lawful fw fv keys may =
    may-come-as space.caps space.parties space.good lawful.lawful space.asks w v steps finding fw.good fv.good keys may
