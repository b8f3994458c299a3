-- The first place that passes a test, and tables of rules with what follows from their reasons.
use Rattle.std.proofs.Common.{◌≡◌, ℕ, zero, suc, ◌+◌, ◌<◌, Bool, true, false, nat_lt, List, [], ◌∷◌, ◌++◌, length}
use Rattle.std.proofs.Common.{map, position, Option, Some, None, option_map, unwrap_or, refl, sym, ◌∙◌, arith, inl, inr}
use Rattle.std.proofs.Common.{◌&&◌, nat_le, is_some, subst, count_by}
use Rattle.std.proofs.lemmas.{Bool.{cases_lt, lt-ltb}, Grind.{common_steps}}
use Rattle.std.specs.List.{list_any, position_or_len}
use Rattle.dsa_base.specs.{Rows.{first_row, when}, Numbers.{has, numbers_below}}
use Rattle.dsa_base.proofs.NumberLemmas.{numbers_below-hit}
use Rattle.dsa_regs.specs.{declared.GroupConfig.{GroupConfig}, Config.{first_past, is_shared, is_in_two, first_shared}}

-- ---- places

-- one that passes has a place
any-place : {X : Type 0} (p : X → Bool) (xs : List X) → list_any p xs ≡ nat_lt (position_or_len p xs) (length xs)
any-place p [] = refl
any-place p (x ∷ xs) = grind (arith, common_steps, any-place p xs)

pub placed : {X : Type 0} (p : X → Bool) (xs : List X) → position p xs ≡ when (list_any p xs) (position_or_len p xs)
placed p xs = rw (any-place p xs) refl

pub off : {X : Type 0} (test : Bool) (x : X) → when test x ≡ None → test ≡ false
off true x h = absurd cc
off false x h = refl

-- a row that tells something stands, and it tells what it has
pub on : {X : Type 0} (test : Bool) (x y : X) → when test x ≡ Some y → (test ≡ true) × (x ≡ y)
on true x y h = (refl, cc)
on false x y h = absurd cc

-- no place: none passes
pub placed-none : {X : Type 0} (p : X → Bool) (xs : List X) → position p xs ≡ None → list_any p xs ≡ false
placed-none p xs h = off (list_any p xs) (position_or_len p xs) (sym (placed p xs) ∙ h)

pub placed-at : {X : Type 0} (p : X → Bool) (xs : List X) (k : ℕ) → position p xs ≡ Some k
    → (list_any p xs ≡ true) × (position_or_len p xs ≡ k)
placed-at p xs k h = on (list_any p xs) (position_or_len p xs) k (sym (placed p xs) ∙ h)

-- what is there is not missing
pub none-some : {X Y : Type 0} (o : Option X) → o ≡ None → is_some o ≡ true → Y
none-some None h t = absurd cc
none-some (Some x) h t = absurd cc

pub place-or-length : {X : Type 0} (p : X → Bool) (xs : List X)
    → unwrap_or (position p xs) (length xs) ≡ position_or_len p xs
place-or-length p [] = refl
place-or-length p (x ∷ xs) = grind (arith, common_steps, place-or-length p xs)

-- ---- the numbers below a bound, one after the other

pub count-below : (n : ℕ) → length (numbers_below n) ≡ n
count-below zero = refl
count-below (suc n) = grind (arith, common_steps, count-below n)

before : {X : Type 0} (p : X → Bool) (xs ys : List X) → list_any p xs ≡ true
    → position_or_len p (xs ++ ys) ≡ position_or_len p xs
before p [] ys h = absurd cc
before p (x ∷ xs) ys h = grind (arith, common_steps, h, before p xs ys)

after : {X : Type 0} (p : X → Bool) (xs ys : List X) → list_any p xs ≡ false
    → position_or_len p (xs ++ ys) ≡ length xs + position_or_len p ys
after p [] ys h = omega arith
after p (x ∷ xs) ys h = grind (arith, common_steps, h, after p xs ys)

none-placed : {X : Type 0} (p : X → Bool) (xs : List X) → list_any p xs ≡ false → position_or_len p xs ≡ length xs
none-placed p [] h = refl
none-placed p (x ∷ xs) h = grind (arith, common_steps, h, none-placed p xs)

-- none passes: all have been walked past
pub none-below : (p : ℕ → Bool) (n : ℕ) → list_any p (numbers_below n) ≡ false → position_or_len p (numbers_below n) ≡ n
none-below p n h = none-placed p (numbers_below n) h ∙ count-below n

pub first-below : (p : ℕ → Bool) (n k : ℕ) → k < n → list_any p (numbers_below k) ≡ false → p k ≡ true
    → position_or_len p (numbers_below n) ≡ k
first-below p zero k h none e = absurd (omega arith)
first-below p (suc n) k h none e =
    elim (cases_lt k n) [
      | inl low ↦
          before p (numbers_below n) (n ∷ []) (numbers_below-hit p n k low e) ∙ first-below p n k low none e
      | inr past ↦
          let same : n ≡ k = omega arith in
          let here : position_or_len p (k ∷ []) ≡ 0 = rw e refl in
          rw same (after p (numbers_below k) (k ∷ []) none ∙ omega (arith, count-below k, here))
    ]

-- the first number that two groups name
pub first-shared : (members : GroupConfig → ℕ) (groups : List GroupConfig) (n k : ℕ) → k < n
    → list_any (is_shared members groups) (numbers_below k) ≡ false → 1 < count_by (λ g. has (members g) k) groups
    → when (is_in_two members groups n) (first_shared members groups n) ≡ Some k
first-shared members groups n k low none two =
    let here : is_shared members groups k ≡ true = lt-ltb _ _ two in
    let some : is_in_two members groups n ≡ true = numbers_below-hit (is_shared members groups) n k low here in
    rw (some, first-below (is_shared members groups) n k low none here) refl

-- ---- rules

-- a rule that is broken is told, and one that is not is passed over
pub rule-broken : {R : Type 0} (test : Bool) (reason told : R) (rules : List (Bool × R)) → when test reason ≡ Some told
    → first_row ((test, reason) ∷ rules) ≡ Some told
rule-broken true reason told rules h = h
rule-broken false reason told rules h = absurd cc

pub rule-kept : {R : Type 0} (test : Bool) (reason : R) (rules : List (Bool × R)) → when test reason ≡ None
    → first_row ((test, reason) ∷ rules) ≡ first_row rules
rule-kept true reason rules h = absurd cc
rule-kept false reason rules h = refl

-- what follows from the first reason is the first that follows
pub row-map : {R A : Type 0} (f : R → A) (rules : List (Bool × R))
    → option_map f (first_row rules) ≡ first_row (map (λ rule. (rule.0, f rule.1)) rules)
row-map f [] = refl
row-map f ((true, r) ∷ rules) = refl
row-map f ((false, r) ∷ rules) = row-map f rules

-- ---- a set of 64 bits beside a count

pub past-at : (count set k : ℕ) → k < 64 → list_any (λ k. nat_le count k && has set k) (numbers_below k) ≡ false
    → (nat_le count k && has set k) ≡ true → first_past count set ≡ k
unfolding first_past
past-at count set k h none e = first-below (λ k. nat_le count k && has set k) 64 k h none e

pub past-none : (count set n : ℕ) → n ≡ 64 → list_any (λ k. nat_le count k && has set k) (numbers_below n) ≡ false
    → first_past count set ≡ 64
unfolding first_past
past-none count set n all none =
    none-below (λ k. nat_le count k && has set k) 64
    (subst (λ m. list_any (λ k. nat_le count k && has set k) (numbers_below m) ≡ false) all none)
