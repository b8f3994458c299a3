-- Bytes that are added one after the other.
use Rattle.std.proofs.Common.{◌≡◌, ℕ, ◌+◌, ◌<◌, ◌≤◌, ◌/◌, ◌%◌, List, [], ◌∷◌, ◌++◌, length, take, get_or, sym, ap, ◌∙◌}
use Rattle.std.specs.List.{flat_map}
use Rattle.std.proofs.lemmas.List.{append_assoc, append-nil, take_more}
use Rattle.dsa_key_bytes.specs.Numbers.{number_bytes}
use Rattle.dsa_key_bytes.proofs.Numbers.{small-number, large-number}

-- one byte of a number more
pub byte-added : (all now new : List ℕ) (n byte : ℕ) → 128 ≤ n → now ++ number_bytes n ≡ all
    → byte ≡ n % 128 + 128 → new ≡ now ++ byte ∷ [] → new ++ number_bytes (n / 128) ≡ all
byte-added all now new n byte large before is added =
    ap (λ (l : List ℕ). l ++ number_bytes (n / 128)) (added ∙ ap (λ b. now ++ b ∷ []) is)
    ∙ append_assoc now ((n % 128 + 128) ∷ []) (number_bytes (n / 128))
    ∙ ap (λ (l : List ℕ). now ++ l) (sym (large-number n large)) ∙ before

pub last-added : (all now new : List ℕ) (n byte : ℕ) → n < 128 → now ++ number_bytes n ≡ all → byte ≡ n
    → new ≡ now ++ byte ∷ [] → new ≡ all
last-added all now new n byte small before is added =
    added ∙ ap (λ b. now ++ b ∷ []) is ∙ ap (λ (l : List ℕ). now ++ l) (sym (small-number n small)) ∙ before

flat-more : {A : Type 0} (f : A → List ℕ) (xs : List A) (x : A) → flat_map f (xs ++ x ∷ []) ≡ flat_map f xs ++ f x
flat-more f [] x = append-nil (f x)
flat-more f (y ∷ ys) x = ap (λ (l : List ℕ). f y ++ l) (flat-more f ys x)
    ∙ sym (append_assoc (f y) (flat_map f ys) (f x))

-- the bytes of one element more
pub bytes-more : {A : Type 0} (f : A → List ℕ) (xs : List A) (i : ℕ) (d : A) (old now new : List ℕ) → i < length xs
    → now ≡ old ++ flat_map f (take i xs) → new ≡ now ++ f (get_or xs i d)
    → new ≡ old ++ flat_map f (take (i + 1) xs)
bytes-more f xs i d old now new below before added =
    added ∙ ap (λ (l : List ℕ). l ++ f (get_or xs i d)) before
    ∙ append_assoc old (flat_map f (take i xs)) (f (get_or xs i d))
    ∙ ap (λ (l : List ℕ). old ++ l) (sym (ap (flat_map f) (take_more xs i d below)
    ∙ flat-more f (take i xs) (get_or xs i d)))
