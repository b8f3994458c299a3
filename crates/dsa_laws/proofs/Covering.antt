-- What the groups use or have reserved, as what their engines need changes.
use Rattle.std.proofs.Common.{◌≡◌, ℕ, zero, suc, ◌+◌, ◌<◌, ◌≤◌, ◌==◌, Bool, true, false, cond, List, [], ◌∷◌, length}
use Rattle.std.proofs.Common.{map, get_or, replicate, Option, Some, None, refl, ap, arith, ⊎_elim}
use Rattle.std.proofs.lemmas.List.{Quantifiers.{position-Some}, Sums.{sum_by-cons, sum_by-le-sum_by}}
use Rattle.std.proofs.lemmas.Bool.{cases_lt, ltb-false, Decides.{nat_tests}}
use Rattle.std.specs.Prelude.{sum_by, count_by, filter, position, nat_lt}
use Rattle.dsa_base.proofs.NumberLists.{get_or-each, get_or-past, length-each, raised-table, zero-table}
use Rattle.dsa_base.proofs.{NumberSums.{sum-raised, zero-sum}, NumberLemmas.{numbers_below-miss}, Counts.{one-place}}
use Rattle.dsa_base.specs.{Numbers.{has, numbers_below}, Rows.{passes}}
use Rattle.dsa_regs.specs.declared.{Caps.{Caps}, GroupConfig.{GroupConfig}}
use Rattle.dsa_regs.specs.{Config.{zero_group, group_at, is_in_two, total_reserved}, Buffers.{covered_count, fits}}

-- ---- what is in use or reserved

-- with no more in use anywhere no more is covered
covered-less : (groups : List GroupConfig) (us vs : List ℕ) → length us ≤ length vs
    → ((j : ℕ) → get_or us j 0 ≤ get_or vs j 0) → covered_count groups us ≤ covered_count groups vs
covered-less [] us vs l h = omega arith
covered-less (g ∷ groups) [] vs l h = omega arith
covered-less (g ∷ groups) (n ∷ us) [] l h = absurd (omega arith)
covered-less (g ∷ groups) (n ∷ us) (m ∷ vs) l h =
    let one = h zero in
    omega (arith, covered-less groups us vs (omega arith) (λ j. h (suc j)))

-- the same of two tables
covered-table : (groups : List GroupConfig) (u v : ℕ → ℕ) (N : ℕ) → ((g : ℕ) → g < N → u g ≤ v g)
    → covered_count groups (map u (numbers_below N)) ≤ covered_count groups (map v (numbers_below N))
covered-table groups u v N h = covered-less groups (map u (numbers_below N)) (map v (numbers_below N))
    (omega (arith, length-each u N, length-each v N))
    (λ j. ⊎_elim
    (λ i. omega (arith, get_or-each u N j 0 i, get_or-each v N j 0 i, h j i))
    (λ i. omega (arith, get_or-past u N j 0 i))
    (cases_lt j N))

-- with none in use it is what is reserved
covered-none : (groups : List GroupConfig) (n : ℕ) → covered_count groups (replicate n 0) ≤ total_reserved groups
covered-none [] n = omega arith
covered-none (g ∷ groups) zero = omega arith
covered-none (g ∷ groups) (suc n) =
    omega (arith, covered-none groups n, sum_by-cons (λ x. x.reserved) g groups)

-- ---- both bounds, by what each engine needs

-- what the engines of a group need together
abbrev pub needed : (ℕ → ℕ) → ℕ → List GroupConfig → ℕ → ℕ
needed f engines groups g = sum_by f (filter (has (group_at groups g).engines) (numbers_below engines))

abbrev pub all_needed : (ℕ → ℕ) → Caps → List GroupConfig → List ℕ
all_needed f caps groups = map (needed f caps.engines groups) (numbers_below caps.groups)

pub record AreWithin (caps : Caps) (groups : List GroupConfig) (f : ℕ → ℕ) : Type 0 where
  pub allowed : (g : ℕ) → g < caps.groups → needed f caps.engines groups g ≤ (group_at groups g).allowed
  pub total : covered_count groups (all_needed f caps groups) ≤ caps.read_buffers

pub within-less : (caps : Caps) (groups : List GroupConfig) (f f' : ℕ → ℕ) → AreWithin caps groups f
    → ((e : ℕ) → f' e ≤ f e) → AreWithin caps groups f'
within-less caps groups f f' w h =
    let each : (g : ℕ) → needed f' caps.engines groups g ≤ needed f caps.engines groups g =
    λ g. sum_by-le-sum_by f' f (filter (has (group_at groups g).engines) (numbers_below caps.engines)) h in
    let all = covered-table groups (needed f' caps.engines groups) (needed f caps.engines groups) caps.groups
    (λ g i. each g) in
    record { allowed = λ g i. omega (arith, w.allowed g i, each g); total = omega arith }

-- with nothing needed, what is reserved must be at hand
pub within-none : (caps : Caps) (groups : List GroupConfig) (f : ℕ → ℕ) → total_reserved groups ≤ caps.read_buffers
    → ((e : ℕ) → f e ≡ 0) → AreWithin caps groups f
within-none caps groups f h z =
    let none : (g : ℕ) → needed f caps.engines groups g ≡ 0 =
    λ g. zero-sum f (filter (has (group_at groups g).engines) (numbers_below caps.engines)) z in
    record {
      allowed = λ g i. omega (arith, none g);
      total = rw (zero-table (needed f caps.engines groups) caps.groups none)
          (omega (arith, covered-none groups caps.groups));
    }

-- of the engines that pass, where one may need n more
sum-more : (p : ℕ → Bool) (f f' : ℕ → ℕ) (e n N : ℕ) → ((k : ℕ) → f' k ≤ f k + cond (k == e) n 0)
    → sum_by f' (filter p (numbers_below N)) ≤ sum_by f (filter p (numbers_below N)) + cond (p e) n 0
sum-more p f f' e n N h =
    let raised : ℕ → ℕ = λ k. f k + cond (k == e) n 0 in
    let less = sum_by-le-sum_by f' raised (filter p (numbers_below N)) h in
    let all = sum-raised p f raised e n (λ k ne. grind (arith, nat_tests)) (grind (arith, nat_tests)) N in
    grind arith

-- the two bounds where n more are in use in group g, whose engine needs them
within-group : (caps : Caps) (groups : List GroupConfig) (f f' : ℕ → ℕ) (g n : ℕ) → AreWithin caps groups f
    → g < caps.groups → fits caps.read_buffers groups (all_needed f caps groups) g n ≡ true
    → ((j : ℕ) → j < caps.groups
    → needed f' caps.engines groups j ≤ needed f caps.engines groups j + cond (j == g) n 0)
    → AreWithin caps groups f'
within-group caps groups f f' g n w i room more =
    let old = needed f caps.engines groups in
    let raised : ℕ → ℕ = λ j. old j + cond (j == g) n 0 in
    let table = raised-table old raised caps.groups g n i (λ j k ne. grind (arith, nat_tests))
    (grind (arith, nat_tests)) in
    let now = get_or-each old caps.groups g 0 i in
    record {
      allowed = λ j k. grind (arith, nat_tests, more j k, w.allowed j k);
      total = let all = covered-table groups (needed f' caps.engines groups) raised caps.groups more in
          let is = ap (covered_count groups) table in grind (arith, nat_tests);
    }

-- one engine may need n more where these fit its group, and no other group has it
pub within-more : (caps : Caps) (groups : List GroupConfig) (f f' : ℕ → ℕ) (e n : ℕ) → AreWithin caps groups f
    → length groups ≡ caps.groups → e < caps.engines → is_in_two (λ g. g.engines) groups caps.engines ≡ false
    → passes (λ g. fits caps.read_buffers groups (all_needed f caps groups) g n)
    (position (λ g. has g.engines e) groups) ≡ true
    → ((k : ℕ) → f' k ≤ f k + cond (k == e) n 0) → AreWithin caps groups f'
within-more caps groups f f' e n w size inside alone room more =
    go (position (λ g. has g.engines e) groups) refl room
  where
    has_it : GroupConfig → Bool
    has_it = λ g. has g.engines e

    once : count_by has_it groups ≤ 1
    once = omega (
      arith,
      ltb-false 1 (count_by has_it groups) (numbers_below-miss
          (λ k. nat_lt 1 (count_by (λ (g : GroupConfig). has g.engines k) groups)) caps.engines e alone inside),
    )

    go : (o : Option ℕ) → position has_it groups ≡ o
        → passes (λ g. fits caps.read_buffers groups (all_needed f caps groups) g n) o ≡ true → AreWithin caps groups f'
    go None is r = absurd cc
    go (Some g) is r =
        let at = position-Some has_it groups g zero_group is in
        within-group caps groups f f' g n w (omega arith) r
        (λ j i. let only = λ (t : has_it (group_at groups j) ≡ true). one-place has_it groups j g zero_group once
        (omega arith) at.0 t at.1 in
        grind (arith, nat_tests, sum-more (has (group_at groups j).engines) f f' e n caps.engines more))
