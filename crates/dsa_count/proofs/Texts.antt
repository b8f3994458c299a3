-- Texts of numbers, one after another.
use Rattle.std.proofs.Common.{◌≡◌, ℕ, suc, zero, List, [], ◌∷◌, ◌++◌, ◌+◌, ◌<◌, ◌∙◌, ap, sym, refl, add-one, arith, map}
use Rattle.std.proofs.lemmas.List.{flat_map_more, map-append}
use Rattle.std.proofs.lemmas.Grind.{flat_map-append}
use Rattle.std.specs.List.{flat_map}
use Rattle.dsa_base.specs.Numbers.{numbers_below}

-- what is told of the numbers below, and of one more
pub told-more : (f : ℕ → List ℕ) (n : ℕ) (o text new : List ℕ) → text ≡ o ++ flat_map f (numbers_below n)
    → new ≡ text ++ f n → new ≡ o ++ flat_map f (numbers_below (n + 1))
told-more f n o text new h e = rw add-one (e ∙ ap (λ l. l ++ f n) h ∙ flat_map_more f o (numbers_below n) n)

-- what is told alike of each number below
pub told-same : (f g : ℕ → List ℕ) (n : ℕ) → ((k : ℕ) → k < n → f k ≡ g k)
    → flat_map f (numbers_below n) ≡ flat_map g (numbers_below n)
told-same f g zero same = refl
told-same f g (suc n) same =
    flat_map-append f (numbers_below n) (n ∷ [])
    ∙ rw (told-same f g n (λ k h. same k (omega arith)), same n (omega arith))
    (sym (flat_map-append g (numbers_below n) (n ∷ [])))

-- a list with what one number more has
pub each-more : {X : Type 0} (f : ℕ → X) (n : ℕ) (items more : List X) → items ≡ map f (numbers_below n)
    → more ≡ items ++ f n ∷ [] → more ≡ map f (numbers_below (n + 1))
each-more f n items more h e =
    rw add-one (e ∙ ap (λ l. l ++ f n ∷ []) h ∙ sym (map-append f (numbers_below n) (n ∷ [])))
