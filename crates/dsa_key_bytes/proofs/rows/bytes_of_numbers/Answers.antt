use Rattle.std.proofs.Common.{refl}
use Rattle.dsa_key_bytes.specs.Numbers.{number_bytes}
use Rattle.dsa_key_bytes.proofs.rows.bytes_of_numbers.Goals as goal

pub returns : goal.returns
unfolding number_bytes
returns c = record { zero = refl; one_byte = refl; two_bytes = refl; more = refl }
