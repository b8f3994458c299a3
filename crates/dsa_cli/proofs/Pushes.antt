-- Lists that grow at their end.
use Rattle.std.proofs.Common.{◌≡◌, ◌<◌, ℕ, ◌+◌, List, [], ◌∷◌, ◌++◌, length, get_or, inl, inr, sym}
use Rattle.std.proofs.Common.{subst, ◌∙◌, arith}
use Rattle.std.proofs.lemmas.{Bool.{cases_lt}, List.{get_or_append_left, get_or_push}}

-- what holds of each item by its place holds with one more
pub each-pushed : {X : Type 0} (P : ℕ → X → Type 0) (xs : List X) (n : ℕ) (x : X) → length xs ≡ n
    → ((k : ℕ) (d : X) → k < n → P k (get_or xs k d)) → P n x → (k : ℕ) (d : X) → k < n + 1
    → P k (get_or (xs ++ x ∷ []) k d)
each-pushed P xs n x len each here k d lt =
    elim (cases_lt k n) [
      | inl below ↦ subst (P k) (sym (get_or_append_left xs (x ∷ []) d k (omega (arith, below, len)))) (each k d below)
      | inr past ↦
          let same : n ≡ k = omega (arith, past, lt) in
          subst (P k) (sym (get_or_push xs x d k (len ∙ same))) (subst (λ m. P m x) same here)
    ]
