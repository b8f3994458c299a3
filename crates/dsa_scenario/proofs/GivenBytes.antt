-- What a counted reader gave, a read at a time.
use Rattle.std.proofs.Common.{◌≡◌, ◌≤◌, ◌+◌, ℕ, List, ◌++◌, Option, length, take, arith, length-append, length-take}
use Rattle.std.specs.Io.KnownBytes.{Consumes}
use Rattle.std.proofs.KnownBytes.{Consumes-trans}
use Rattle.dsa_scenario.specs.declared.counted.CountedReader.{CountedReader}
use Rattle.dsa_scenario.specs.Counted.{counted_remaining, asked_of, given_of, HasGiven, IsAskedFor}

-- some bytes, and then others
pub HasGiven-trans : {R : Type 0} (remaining : R → Option (List ℕ)) (a b c : CountedReader R) (first more : List ℕ)
    → HasGiven remaining a b first → HasGiven remaining b c more → HasGiven remaining a c (first ++ more)
HasGiven-trans remaining a b c first more one two = (
  Consumes-trans (counted_remaining remaining a) (counted_remaining remaining b) (counted_remaining remaining c) first
      more one.0 two.0,
  omega (arith, one.1, two.1, length-append first more),
)

-- what one read gave
pub HasGiven-once : {R : Type 0} (remaining : R → Option (List ℕ)) (a b : CountedReader R) (count : ℕ)
    (chunk : List ℕ) → count ≤ length chunk
    → Consumes (counted_remaining remaining a) (counted_remaining remaining b) (take count chunk)
    → given_of b ≡ given_of a + count → HasGiven remaining a b (take count chunk)
HasGiven-once remaining a b count chunk inside reads given =
    (reads, omega (arith, inside, given, length-take count chunk))

-- a read more is one for a byte, or one besides
pub asked_once_more : {R : Type 0} (remaining : R → Option (List ℕ)) (a b c : CountedReader R) (first : List ℕ)
    (count : ℕ) (chunk : List ℕ) → HasGiven remaining a b first → asked_of b ≤ asked_of a + length first
    → count ≤ length chunk → Consumes (counted_remaining remaining b) (counted_remaining remaining c) (take count chunk)
    → given_of c ≡ given_of b + count → asked_of c ≡ asked_of b + 1 → IsAskedFor remaining a c 1
asked_once_more remaining a b c first count chunk read each inside reads given counted = (
  first ++ take count chunk,
  HasGiven-trans remaining a b c first (take count chunk) read
      (HasGiven-once remaining b c count chunk inside reads given),
  omega (arith, each, counted, length-append first (take count chunk)),
)
