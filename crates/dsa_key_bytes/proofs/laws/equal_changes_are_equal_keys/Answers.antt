use Rattle.dsa_key_bytes.proofs.Apart.{changes-apart}
use Rattle.dsa_key_bytes.proofs.laws.equal_changes_are_equal_keys.Goals as goal

pub returns : goal.returns
returns c = changes-apart
