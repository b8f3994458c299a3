-- The queues that a mask names.
use Rattle.std.proofs.Common.{◌≡◌, ◌≢◌, ℕ, zero, suc, ◌+◌, ◌-◌, ◌*◌, ◌/◌, ◌%◌, ◌≤◌, ◌==◌, nat_le, nat_lt, ◌&&◌}
use Rattle.std.proofs.Common.{◌||◌, Bool, true, false, List, [], ◌∷◌, ◌++◌, map, filter, refl, ap, ◌∙◌}
use Rattle.std.proofs.Common.{add-one, arith}
use Rattle.std.proofs.lemmas.{Grind.{common_steps}, Bool.{cases_eq, Decides.{nat_tests}}}
use Rattle.std.proofs.lemmas.List.{map-append, Elements.{filter-append}, Folds.{list_any-append}}
use Rattle.std.specs.List.{list_any}
use Rattle.dsa_base.specs.Numbers.{has, numbers_below}

-- one bit more
one-last : (f : ℕ → ℕ) (p test : ℕ → Bool) (n : ℕ) (b : Bool) → p n ≡ b
    → list_any test (map f (filter p (n ∷ []))) ≡ (b && test (f n))
one-last f p test n true e = grind (arith, common_steps)
one-last f p test n false e = grind (arith, common_steps)

-- a test of what is kept of a list, with one more at its end
kept-last : (f : ℕ → ℕ) (p test : ℕ → Bool) (xs : List ℕ) (n : ℕ)
    → list_any test (map f (filter p (xs ++ n ∷ []))) ≡ (list_any test (map f (filter p xs)) || (p n && test (f n)))
kept-last f p test xs n =
    let last = one-last f p test n (p n) refl in
    simp (filter-append, map-append, list_any-append, last)

-- the test of one bit more
one-more : (p : ℕ → Bool) (a n q : ℕ) → ((nat_le a q && nat_lt q (a + n) && p (q - a)) || (p n && (a + n == q)))
    ≡ (nat_le a q && nat_lt q (a + (n + 1)) && p (q - a))
one-more p a n q =
    let last : q ≡ a + n → q - a ≡ n = omega arith in
    grind (arith, nat_tests, common_steps, cases_eq q (a + n))

-- no bit is below the first
below-none : (p : ℕ → Bool) (a q : ℕ) → false ≡ (nat_le a q && nat_lt q (a + 0) && p (q - a))
below-none p a q = grind (arith, nat_tests, common_steps)

-- of the first n bits, the one that q is
named-below : (a m q n : ℕ) → list_any (λ k. k == q) (map (λ b. a + b) (filter (has m) (numbers_below n)))
    ≡ (nat_le a q && nat_lt q (a + n) && has m (q - a))
named-below a m q zero = below-none (has m) a q
named-below a m q (suc n) =
    kept-last (λ b. a + b) (has m) (λ k. k == q) (numbers_below n) n
    ∙ ap (λ b. b || (has m n && (a + n == q))) (named-below a m q n)
    ∙ one-more (has m) a n q
    ∙ ap (λ k. nat_le a q && nat_lt q (a + k) && has m (q - a)) (add-one n)

-- a queue of the group of sixteen, by its bit
among : (p : ℕ → Bool) (g q : ℕ) → (nat_le (16 * g) q && nat_lt q (16 * g + 16) && p (q - 16 * g))
    ≡ ((q / 16 == g) && p (q % 16))
among p g q =
    let rest : q / 16 ≡ g → q - 16 * g ≡ q % 16 = omega arith in
    let out : q / 16 ≢ g → 16 * g ≤ q → 16 * g + 16 ≤ q = omega arith in
    grind (arith, nat_tests, common_steps, cases_eq (q / 16) g)

-- a queue is named where its group of sixteen is the mask's, and its bit is set
pub queues_of-names : (g m q n : ℕ) → n ≡ 16
    → list_any (λ k. k == q) (map (λ b. 16 * g + b) (filter (has m) (numbers_below n)))
    ≡ ((q / 16 == g) && has m (q % 16))
queues_of-names g m q n e =
    named-below (16 * g) m q n ∙ ap (λ k. nat_le (16 * g) q && nat_lt q (16 * g + k) && has m (q - 16 * g)) e
    ∙ among (has m) g q
