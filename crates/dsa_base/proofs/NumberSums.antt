-- Sums over the numbers below a bound.
use Rattle.std.proofs.Common.{◌≡◌, ◌≢◌, ℕ, zero, suc, ◌+◌, ◌*◌, ◌<◌, ◌≤◌, Bool, cond, ◌&&◌, nat_lt, eqb, ◌∙◌, List, []}
use Rattle.std.proofs.lemmas.List.{Elements.{filter-append}, Sums.{sum_by-append, sum_by-cons, sum_by_push}}
use Rattle.std.proofs.{Common.{◌∷◌, length, map, get_or, refl, ap, subst, arith, ⊎_elim}, Math.Nat.{suc-mul}}
use Rattle.std.{proofs.lemmas.{Grind.{common_steps}, Bool.{cases_eq}}, specs.Prelude.{sum_by, filter}}
use Rattle.dsa_base.specs.Numbers.{numbers_below}

-- the numbers below a + b are those below a, and those from a on
pub sum-split_numbers : (F : ℕ → ℕ) (a b : ℕ)
    → sum_by F (numbers_below (a + b)) ≡ sum_by F (numbers_below a) + sum_by (λ k. F (a + k)) (numbers_below b)
sum-split_numbers F a zero = grind arith
sum-split_numbers F a (suc b) =
    let same : a + suc b ≡ suc (a + b) = omega arith in
    omega (arith, ap (λ n. sum_by F (numbers_below n)) same, sum_by_push, sum-split_numbers F a b)

pub sum-plus : (F G : ℕ → ℕ) (n : ℕ) → sum_by (λ k. F k + G k) (numbers_below n)
    ≡ sum_by F (numbers_below n) + sum_by G (numbers_below n)
sum-plus F G zero = refl
sum-plus F G (suc n) = omega (arith, sum_by_push, sum-plus F G n)

pub sum-same : (c n : ℕ) → sum_by (λ (k : ℕ). c) (numbers_below n) ≡ n * c
sum-same c zero = omega arith
sum-same c (suc n) = omega (arith, sum_by_push, sum-same c n, suc-mul n c)

-- below the bound, the one is at most the other
pub sum-numbers-le : (F G : ℕ → ℕ) (n : ℕ) → ((k : ℕ) → k < n → F k ≤ G k)
    → sum_by F (numbers_below n) ≤ sum_by G (numbers_below n)
sum-numbers-le F G zero h = omega arith
sum-numbers-le F G (suc n) h = omega (
  arith,
  sum_by_push,
  h n (omega arith),
  sum-numbers-le F G n (λ k i. h k (omega (arith, i))),
)

-- the sum is no less than each
pub sum-numbers-each : (F : ℕ → ℕ) (n k : ℕ) → k < n → F k ≤ sum_by F (numbers_below n)
sum-numbers-each F zero k h = absurd (omega (arith, h))
sum-numbers-each F (suc n) k h = ⊎_elim
    (λ (e : k ≡ n). rw e (omega (arith, sum_by_push)))
    (λ e. omega (arith, sum_by_push, sum-numbers-each F n k (omega (arith, h, e)))) (cases_eq k n)

-- and less at one number
pub sum-numbers-lt : (F G : ℕ → ℕ) (n j : ℕ) → ((k : ℕ) → k < n → F k ≤ G k) → j < n → F j < G j
    → sum_by F (numbers_below n) < sum_by G (numbers_below n)
sum-numbers-lt F G zero j h i s = absurd (omega (arith, i))
sum-numbers-lt F G (suc n) j h i s =
    let below : (k : ℕ) → k < n → F k ≤ G k = λ k m. h k (omega (arith, m)) in
    ⊎_elim
    (λ (e : j ≡ n). omega (arith, sum_by_push, subst (λ k. F k < G k) e s, sum-numbers-le F G n below))
    (λ e. omega (arith, sum_by_push, h n (omega arith), sum-numbers-lt F G n j below (omega (arith, i, e)) s))
    (cases_eq j n)

sum-first : (F : ℕ → ℕ) (n : ℕ) → sum_by F (numbers_below (suc n)) ≡ F 0 + sum_by (λ k. F (suc k)) (numbers_below n)
sum-first F zero = omega (arith, sum_by-cons)
sum-first F (suc n) = omega (arith, sum-first F n, sum_by_push)

-- a sum over a list, by its places
pub sum-places : {X : Type 0} (g : X → ℕ) (xs : List X) (d : X)
    → sum_by (λ q. g (get_or xs q d)) (numbers_below (length xs)) ≡ sum_by g xs
sum-places g [] d = refl
sum-places g (x ∷ xs) d =
    omega (arith, sum-first (λ q. g (get_or (x ∷ xs) q d)) (length xs), sum-places g xs d, sum_by-cons)

pub sum-map : {X Y : Type 0} (g : Y → ℕ) (f : X → Y) (xs : List X) → sum_by g (map f xs) ≡ sum_by (λ x. g (f x)) xs
sum-map g f [] = refl
sum-map g f (x ∷ xs) = omega (arith, sum-map g f xs, sum_by-cons)

pub sum-equal : {X : Type 0} (f g : X → ℕ) (xs : List X) → ((x : X) → f x ≡ g x) → sum_by f xs ≡ sum_by g xs
sum-equal f g [] h = refl
sum-equal f g (x ∷ xs) h = omega (arith, sum-equal f g xs h, h x, sum_by-cons)

-- where each is nothing the sum is
pub zero-sum : {X : Type 0} (f : X → ℕ) (xs : List X) → ((x : X) → f x ≡ 0) → sum_by f xs ≡ 0
zero-sum f [] h = refl
zero-sum f (x ∷ xs) h = omega (arith, sum_by-cons, h x, zero-sum f xs h)

-- of the numbers below a bound that pass a test, where one number gives n more
pub sum-raised : (p : ℕ → Bool) (f f' : ℕ → ℕ) (e n : ℕ) → ((k : ℕ) → k ≢ e → f' k ≡ f k) → f' e ≡ f e + n → (N : ℕ)
    → sum_by f' (filter p (numbers_below N)) ≡ sum_by f (filter p (numbers_below N)) + cond (nat_lt e N && p e) n 0
sum-raised p f f' e n same more zero = grind arith
sum-raised p f f' e n same more (suc N) =
    let new = ap (sum_by f') (filter-append p (numbers_below N) (N ∷ []))
    ∙ sum_by-append f' (filter p (numbers_below N)) (filter p (N ∷ [])) in
    let old = ap (sum_by f) (filter-append p (numbers_below N) (N ∷ []))
    ∙ sum_by-append f (filter p (numbers_below N)) (filter p (N ∷ [])) in
    let last : sum_by f' (filter p (N ∷ [])) ≡ sum_by f (filter p (N ∷ [])) + cond (eqb N e && p e) n 0 =
    grind (arith, common_steps, same N, more) in
    let before = sum-raised p f f' e n same more N in
    let split : cond (nat_lt e (suc N) && p e) n 0 ≡ cond (nat_lt e N && p e) n 0 + cond (eqb N e && p e) n 0 =
    grind (arith, common_steps) in
    omega (arith, new, old, last, before, split)
