-- What is added to a text.
use Rattle.std.proofs.Common.{◌≡◌, ◌∙◌, ℕ, ◌+◌, List, ◌++◌, flat_map, add-one, ap, append_assoc}
use Rattle.std.proofs.lemmas.List.{flat_map_more}
use Rattle.dsa_base.specs.Numbers.{numbers_below}

-- one number more
pub below_more : (f : ℕ → List ℕ) (n : ℕ) (before : List ℕ)
    → (before ++ flat_map f (numbers_below n)) ++ f n ≡ before ++ flat_map f (numbers_below (n + 1))
below_more f n before = rw add-one (flat_map_more f before (numbers_below n) n)

-- one part more
pub then : (before first second : List ℕ) {middle after : List ℕ} → middle ≡ before ++ first
    → after ≡ middle ++ second → after ≡ before ++ (first ++ second)
then before first second is next = next ∙ ap (λ text. text ++ second) is ∙ append_assoc before first second
