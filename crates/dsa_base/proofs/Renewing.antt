-- A list whose places are renewed one by one, from the first on.
use Rattle.std.proofs.Common.{◌≡◌, ℕ, zero, suc, ◌<◌, ◌≤◌, cond, ◌==◌, List, ◌++◌, length, map, drop, set, get_or, refl}
use Rattle.std.proofs.{Math.Seq.{drop-cons, set-append_seam}, lemmas.Grind.{common_steps}, Common.{sym, ◌∙◌, arith}}
use Rattle.dsa_base.{specs.Numbers.{numbers_below}, proofs.NumberLists.{length-each}}

-- the first n places are what f gives for them, the rest are as they were
abbrev pub renewed : {X : Type 0} → (ℕ → X) → ℕ → List X → List X
renewed f n xs = map f (numbers_below n) ++ drop n xs

pub renewed-set : {X : Type 0} (f : ℕ → X) (n : ℕ) (xs : List X) → n < length xs
    → set (renewed f n xs) n (f n) ≡ renewed f (suc n) xs
renewed-set f n xs h = grind (
  arith,
  common_steps,
  length-each f n,
  drop-cons xs n (f n) h,
  set-append_seam (map f (numbers_below n)) (get_or xs n (f n)) (drop (suc n) xs) (f n),
)

pub renewed-same : {X : Type 0} (f : ℕ → X) (n : ℕ) (xs : List X) (d : X) → n < length xs → f n ≡ get_or xs n d
    → renewed f n xs ≡ renewed f (suc n) xs
renewed-same f n xs d h e = grind (arith, common_steps, e, h)

pub renewed-all : {X : Type 0} (f : ℕ → X) (n : ℕ) (xs : List X) → length xs ≤ n
    → renewed f n xs ≡ map f (numbers_below n)
renewed-all f n xs h = grind (arith, common_steps, h)

-- the place that comes next is as it was
pub renewed-next : {X : Type 0} (f : ℕ → X) (n : ℕ) (xs : List X) (d : X) → n < length xs
    → get_or (renewed f n xs) n d ≡ get_or xs n d
renewed-next f n xs d h = grind (arith, common_steps, length-each f n, h)

-- ---- one place renewed

renewed-before : {X : Type 0} (xs : List X) (k : ℕ) (x d : X) (n : ℕ) → n ≤ k → n ≤ length xs
    → renewed (λ q. cond (q == k) x (get_or xs q d)) n xs ≡ xs
renewed-before xs k x d zero low h = refl
renewed-before xs k x d (suc n) low h =
    sym (renewed-same (λ q. cond (q == k) x (get_or xs q d)) n xs d (omega arith) (grind (arith, low)))
    ∙ renewed-before xs k x d n (omega arith) (omega arith)

renewed-past : {X : Type 0} (xs : List X) (k : ℕ) (x d : X) (n : ℕ) → k < n → n ≤ length xs
    → renewed (λ q. cond (q == k) x (get_or xs q d)) n xs ≡ set xs k x
renewed-past xs k x d zero high h = absurd (omega arith)
renewed-past xs k x d (suc n) high h = grind (
  arith,
  renewed-before xs k x d n,
  renewed-past xs k x d n,
  renewed-set (λ q. cond (q == k) x (get_or xs q d)) n xs (omega arith),
  renewed-same (λ q. cond (q == k) x (get_or xs q d)) n xs d (omega arith),
  high,
  h,
)

pub renewed-one : {X : Type 0} (xs : List X) (k : ℕ) (x d : X) (n : ℕ) → k < n → n ≡ length xs
    → set xs k x ≡ map (λ q. cond (q == k) x (get_or xs q d)) (numbers_below n)
renewed-one xs k x d n h e =
    sym (renewed-past xs k x d n h (omega (arith, e)))
    ∙ renewed-all (λ q. cond (q == k) x (get_or xs q d)) n xs (omega (arith, e))
