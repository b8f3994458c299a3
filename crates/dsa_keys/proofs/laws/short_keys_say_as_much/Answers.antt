use Rattle.dsa_keys.proofs.laws.short_keys_say_as_much.Goals as goal
use Rattle.dsa_keys.proofs.Short.{key-of-short, move-described, short-keys-say-all}

pub returns-clause-keys : goal.returns-clause-keys
returns-clause-keys c = key-of-short

pub returns-clause-kept : goal.returns-clause-kept
returns-clause-kept c = move-described

pub returns-clause-steps : goal.returns-clause-steps
returns-clause-steps c = short-keys-say-all
