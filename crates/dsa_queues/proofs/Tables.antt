-- The tables of a set-up, as a loop over the queues renews them.
use Rattle.std.proofs.Common.{◌≡◌, ℕ, ◌+◌, ◌<◌, List, length, set, get_or, add-one}
use Rattle.dsa_base.proofs.Renewing.{renewed, renewed-set, renewed-same}

-- one more place is written
pub renewed-written : {X : Type 0} (f : ℕ → X) (n : ℕ) (x : X) (xs : List X) → n < length xs → x ≡ f n
    → set (renewed f n xs) n x ≡ renewed f (n + 1) xs
renewed-written f n x xs h is = rw (is, add-one) (renewed-set f n xs h)

-- or has already what it is to have
pub renewed-kept : {X : Type 0} (f : ℕ → X) (n : ℕ) (xs : List X) (d : X) → n < length xs → f n ≡ get_or xs n d
    → renewed f n xs ≡ renewed f (n + 1) xs
renewed-kept f n xs d h is = rw add-one (renewed-same f n xs d h is)
