use Rattle.dsa_keys.proofs.laws.equal_keys_make_the_same_steps.Goals as goal
use Rattle.dsa_keys.proofs.SameSteps.{keys-say-all, keys-determine}

pub returns : goal.returns
returns c caps labels others s s' t event reply label ls lt fs ft equal leads = (
  keys-say-all caps labels others s s' t event reply label ls lt fs ft equal leads,
  λ t' reply' leads' take.
      keys-determine caps labels others s s' t event reply label ls lt fs ft equal leads t' reply' take leads',
)
