use Rattle.std.proofs.Common.{refl}
use Rattle.dsa_key_bytes.specs.Numbers.{number_bytes, bytes_of_numbers}
use Rattle.dsa_key_bytes.proofs.rows.bytes_of_a_small_key.Goals as goal

pub returns : goal.returns
unfolding number_bytes bytes_of_numbers
returns c = record { changing = refl; whole = refl }
