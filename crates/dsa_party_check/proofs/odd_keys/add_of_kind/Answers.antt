use Rattle.dsa_party_check.proofs.odd_keys.add_of_kind.Goals as goal

pub returns : goal.returns
returns c = rw (c.as_slice.ensures.value, c.in_ok-all.ensures) at c.add_strays.ensures
