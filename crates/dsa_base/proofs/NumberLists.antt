-- A list made of a function of the numbers below a bound.
use Rattle.std.proofs.Common.{◌≡◌, ◌≢◌, ℕ, zero, suc, ◌+◌, ◌-◌, ◌<◌, ◌≤◌, List, [], ◌∷◌, length, map, replicate}
use Rattle.std.proofs.Common.{set, get_or}
use Rattle.std.proofs.lemmas.Grind.{common_steps}
use Rattle.std.proofs.lemmas.List.{ext_get_or, get_or-map, length-map, length-replicate, length-set, map-append}
use Rattle.std.proofs.lemmas.List.{get_or-set_same, set-set, set-get_or}
use Rattle.std.proofs.{Common.{refl, sym, ap, ◌∙◌, arith, length-append}, Math.ListN.{get_or-eq_default}}
use Rattle.dsa_base.specs.Numbers.{numbers_below}

pub length-numbers : (n : ℕ) → length (numbers_below n) ≡ n
length-numbers zero = refl
length-numbers (suc n) = omega (arith, length-append (numbers_below n) (n ∷ []), length-numbers n)

pub length-each : {X : Type 0} (f : ℕ → X) (n : ℕ) → length (map f (numbers_below n)) ≡ n
length-each f n = length-map (numbers_below n) f ∙ length-numbers n

get_or-numbers : (n q d : ℕ) → q < n → get_or (numbers_below n) q d ≡ q
get_or-numbers zero q d h = absurd (omega arith)
get_or-numbers (suc n) q d h = grind (arith, common_steps, length-numbers n, get_or-numbers n q d, h)

pub get_or-each : {X : Type 0} (f : ℕ → X) (n q : ℕ) (d : X) → q < n → get_or (map f (numbers_below n)) q d ≡ f q
get_or-each f n q d h =
    get_or-map f (numbers_below n) q 0 d (omega (arith, length-numbers n, h)) ∙ ap f (get_or-numbers n q 0 h)

pub get_or-past : {X : Type 0} (f : ℕ → X) (n q : ℕ) (d : X) → n ≤ q → get_or (map f (numbers_below n)) q d ≡ d
get_or-past f n q d h = get_or-eq_default (map f (numbers_below n)) d (omega (arith, length-each f n, h))

-- where f' is f below the bound the tables are the same
pub same-table : {X : Type 0} (f f' : ℕ → X) (n : ℕ) → ((k : ℕ) → k < n → f' k ≡ f k)
    → map f' (numbers_below n) ≡ map f (numbers_below n)
same-table f f' zero h = refl
same-table f f' (suc n) h =
    map-append f' (numbers_below n) (n ∷ [])
    ∙ rw (same-table f f' n (λ k lt. h k (omega (arith, lt))), h n (omega arith))
    (sym (map-append f (numbers_below n) (n ∷ [])))

-- a table of f with one number raised is the table of f'
pub raised-table : (f f' : ℕ → ℕ) (n k more : ℕ) → k < n → ((j : ℕ) → j < n → j ≢ k → f' j ≡ f j) → f' k ≡ f k + more
    → map f' (numbers_below n) ≡ set (map f (numbers_below n)) k (get_or (map f (numbers_below n)) k 0 + more)
raised-table f f' n k more h same raised =
    let old : List ℕ = map f (numbers_below n) in
    let new : length (map f' (numbers_below n)) ≡ n = length-each f' n in
    let len : length old ≡ n = length-each f n in
    ext_get_or 0 _ _ (omega (arith, new, len, length-set old k (get_or old k 0 + more)))
    (λ i l. grind (
      arith,
      common_steps,
      new,
      len,
      h,
      l,
      raised,
      same i,
      get_or-each f n i 0,
      get_or-each f' n i 0,
      get_or-each f n k 0,
    ))

-- what was raised is given back
pub given-back : (xs ys : List ℕ) (g n : ℕ) → g < length ys → xs ≡ set ys g (get_or ys g 0 + n)
    → (n ≤ get_or xs g 0) × (set xs g (get_or xs g 0 - n) ≡ ys)
given-back xs ys g n h is =
    let at : get_or xs g 0 ≡ get_or ys g 0 + n = rw is (get_or-set_same ys g (get_or ys g 0 + n) 0 h) in
    let less : get_or xs g 0 - n ≡ get_or ys g 0 = omega (arith, at) in
    (omega (arith, at), rw (less, is, set-set ys g (get_or ys g 0 + n) (get_or ys g 0), set-get_or ys g 0) refl)

-- a table of zeros
pub zero-table : (f : ℕ → ℕ) (n : ℕ) → ((k : ℕ) → f k ≡ 0) → map f (numbers_below n) ≡ replicate n 0
zero-table f n h =
    ext_get_or 0 _ _ (length-each f n ∙ sym (length-replicate n 0))
    (λ i l. grind (arith, common_steps, length-each f n, l, get_or-each f n i 0, h i))
