-- Numbers as bytes.
use Rattle.std.specs.Prelude.{ℕ, zero, suc, ◌+◌, ◌/◌, ◌%◌, nat_lt, cond, List, [], ◌∷◌, flat_map}

-- so many of the bytes of a number at most: seven bits in each, the least ones first, and 128 more in all but the last
abbrev pub first_bytes : ℕ → ℕ → List ℕ
first_bytes zero n = []
first_bytes (suc count) n = cond (nat_lt n 128) (n ∷ []) ((n % 128 + 128) ∷ first_bytes count (n / 128))

-- the bytes of a number, of which there are no more than it says
unfoldable pub number_bytes : ℕ → List ℕ
number_bytes n = first_bytes (n + 1) n

-- the bytes of each number, one after the other
unfoldable pub bytes_of_numbers : List ℕ → List ℕ
bytes_of_numbers numbers = flat_map number_bytes numbers
