use Rattle.dsa_keys.proofs.laws.equal_keys_replay_the_same.Goals as goal
use Rattle.dsa_keys.proofs.Replays.{walks-alike}

pub returns : goal.returns
returns c = walks-alike
