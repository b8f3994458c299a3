use Rattle.dsa_key_bytes.proofs.Apart.{keys-apart}
use Rattle.dsa_key_bytes.proofs.laws.equal_bytes_are_equal_keys.Goals as goal

pub returns : goal.returns
returns c = keys-apart
