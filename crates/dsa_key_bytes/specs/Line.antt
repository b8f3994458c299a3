-- A line of bytes, which has room for so many.
use Rattle.std.specs.Prelude.{ℕ, nat_lt, List, [], ◌∷◌, ◌++◌, length, fold, Option, Some, option_and_then}
use Rattle.dsa_base.specs.Rows.{when}
use Rattle.dsa_key_bytes.specs.Numbers.{bytes_of_numbers}

-- what was written to a line: none where that was more than it has room for
pub record Written : Type 0 where
  pub capacity : ℕ
  pub bytes : Option (List ℕ)

-- with one more byte
abbrev pub with_byte : Written → ℕ → Written
with_byte line byte = record line {
  bytes = option_and_then (λ bytes. when (nat_lt (length bytes) line.capacity) (bytes ++ byte ∷ [])) line.bytes;
}

-- with more bytes
unfoldable pub with_bytes : Written → List ℕ → Written
with_bytes line bytes = fold with_byte line bytes

-- with the bytes of more numbers
unfoldable pub with_numbers : Written → List ℕ → Written
with_numbers line numbers = with_bytes line (bytes_of_numbers numbers)

-- an empty line with as much room
abbrev pub emptied : Written → Written
emptied line = record line { bytes = Some [] }
