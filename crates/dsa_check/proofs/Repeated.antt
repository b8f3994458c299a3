-- Sets of keys, and how often a key comes, one key after the other.
use Rattle.std.proofs.Common.{◌++◌, ◌+◌, ◌<◌, ◌==◌, nat_lt, length, take, drop, get_or, arith, Bor}
use Rattle.std.proofs.Common.{map, [], ◌∷◌, ◌≡◌, ◌&&◌, ◌||◌, ◌∙◌, ℕ, Bool, true, false, not, List}
use Rattle.std.proofs.Common.{bytes_eq, refl, sym, ap, subst}
use Rattle.std.specs.{Prelude.{cond}, Ordering.{nat_cmp, is_eq}, Cmp.Lexicographic.{slice_cmp}}
use Rattle.std.specs.{declared.{alloc.Global.{Global}}}
use Rattle.json.specs.{Strict.{keys}, Value.{members_view}}
use Rattle.json.specs.declared.value.Value.{Value}
use Rattle.dsa_check.specs.Repeats.{how_often, again_after}
use Rattle.std.specs.Prelude.{if◌then◌else◌}
use Rattle.std.proofs.lemmas.Bool.{Decides.{nat_tests}}
use Rattle.std.proofs.lemmas.List.Sums.{fold-append}
use Rattle.std.proofs.lemmas.List.{append_assoc, append-nil, take_more, drop_more, map-append}
use Rattle.std.proofs.lemmas.{Map.Text.{is_eq-slice_cmp}, Slice.Eq.{bytes_eq-Decides}}

pub got : (key text : List ℕ) (new was : Bool) → new ≡ cond (is_eq (slice_cmp nat_cmp key text)) true was
    → new ≡ (bytes_eq key text || was)
got key text new was is = is ∙ ap (λ b. cond b true was) (is_eq-slice_cmp key text) ∙ either (bytes_eq key text)
  where
    either : (b : Bool) → cond b true was ≡ (b || was)
    either true = refl
    either false = refl

-- what a set has of a key, it has of each text that equals the key
at_key : (key text : List ℕ) (has : List ℕ → Bool) → has key ≡ true → (bytes_eq key text && has text) ≡ bytes_eq key text
at_key key text has is = go (bytes_eq key text) (bytes_eq-Decides key text).0
  where
    go : (b : Bool) → (b ≡ true → key ≡ text) → (b && has text) ≡ b
    go true same = subst (λ t. has t ≡ true) (same refl) is
    go false same = refl

pub got_again : (key text : List ℕ) (has : List ℕ → Bool) (new was : Bool) → has key ≡ true
    → new ≡ cond (is_eq (slice_cmp nat_cmp key text)) true was → new ≡ (bytes_eq key text && has text || was)
got_again key text has new was there is =
    got key text new was is ∙ ap (λ b. b || was) (sym (at_key key text has there))

-- a key that is not new was there
pub was_there : (new was : Bool) → new ≡ not was → new ≡ false → was ≡ true
was_there new true is old = refl
was_there new false is old = absurd cc

-- ---- the keys of the members of an object

pub keys_of_members : (ms : List (Bor (List ℕ) × Value Global))
    → keys (members_view ms) ≡ map (λ (m : Bor (List ℕ) × Value Global). m.0.now) ms
keys_of_members [] = refl
keys_of_members (m ∷ ms) = ap (λ (ks : List (List ℕ)). m.0.now ∷ ks) (keys_of_members ms)

-- ---- how often a key stands, and one key more

abbrev one_of : Bool → ℕ
one_of true = 1
one_of false = 0

how_often_more : (before : List (List ℕ)) (key text : List ℕ)
    → how_often (before ++ key ∷ []) text ≡ how_often before text + one_of (bytes_eq key text)
how_often_more before key text =
    fold-append (λ (a : ℕ) (x : List ℕ). a + cond (bytes_eq x text) 1 0) 0 before (key ∷ [])
    ∙ ap (λ (n : ℕ). how_often before text + n) (go (bytes_eq key text))
  where
    go : (b : Bool) → cond b 1 0 ≡ one_of b
    go true = refl
    go false = refl

pub seen_more : (keys : List (List ℕ)) (key text : List ℕ) (new was : Bool) → was ≡ nat_lt 0 (how_often keys text)
    → new ≡ (bytes_eq key text || was) → new ≡ nat_lt 0 (how_often (keys ++ key ∷ []) text)
seen_more keys key text new was h is = rw (is, h, how_often_more keys key text) (go (bytes_eq key text) (how_often keys text))
  where
    go : (b : Bool) (n : ℕ) → (b || nat_lt 0 n) ≡ nat_lt 0 (n + one_of b)
    go true n = grind (arith, nat_tests)
    go false n = grind (arith, nat_tests)

pub again_more : (keys : List (List ℕ)) (key text : List ℕ) (new seen was : Bool) → seen ≡ nat_lt 0 (how_often keys text)
    → was ≡ nat_lt 1 (how_often keys text) → new ≡ (bytes_eq key text && seen || was)
    → new ≡ nat_lt 1 (how_often (keys ++ key ∷ []) text)
again_more keys key text new seen was h k is =
    rw (is, h, k, how_often_more keys key text) (go (bytes_eq key text) (how_often keys text))
  where
    go : (b : Bool) (n : ℕ) → (b && nat_lt 0 n || nat_lt 1 n) ≡ nat_lt 1 (n + one_of b)
    go true n = grind (arith, nat_tests)
    go false n = grind (arith, nat_tests)

-- a key comes for the second time where it was seen, and not again
pub second : (n : ℕ) → (nat_lt 0 n && not (nat_lt 1 n)) ≡ (n == 1)
second n = grind (arith, nat_tests)

-- ---- the keys of some members, and one member more

module _ {M : Type 0} (key : M → List ℕ) (ms : List M) (i : ℕ) (d : M) (inside : i < length ms) where
  pub keys_next : map key (take (i + 1) ms) ≡ map key (take i ms) ++ key (get_or ms i d) ∷ []
  keys_next = rw (take_more ms i d inside, map-append) refl

  rest_next : map key (drop i ms) ≡ key (get_or ms i d) ∷ map key (drop (i + 1) ms)
  rest_next = rw (drop_more ms i d inside) refl

  pub seen_next : (text : List ℕ) (new was : Bool) → was ≡ nat_lt 0 (how_often (map key (take i ms)) text)
      → new ≡ (bytes_eq (key (get_or ms i d)) text || was)
      → new ≡ nat_lt 0 (how_often (map key (take (i + 1) ms)) text)
  seen_next text new was h is = rw keys_next (seen_more (map key (take i ms)) (key (get_or ms i d)) text new was h is)

  pub again_next : (text : List ℕ) (new seen was : Bool) → seen ≡ nat_lt 0 (how_often (map key (take i ms)) text)
      → was ≡ nat_lt 1 (how_often (map key (take i ms)) text)
      → new ≡ (bytes_eq (key (get_or ms i d)) text && seen || was)
      → new ≡ nat_lt 1 (how_often (map key (take (i + 1) ms)) text)
  again_next text new seen was h k is =
      rw keys_next (again_more (map key (take i ms)) (key (get_or ms i d)) text new seen was h k is)

  module _ (text_of : List ℕ → List ℕ) (told target : List (List ℕ))
      (so : told ++ map text_of (again_after (map key (take i ms)) (map key (drop i ms))) ≡ target) where
    pub told_more : (how_often (map key (take i ms)) (key (get_or ms i d)) == 1) ≡ true
        → (told ++ text_of (key (get_or ms i d)) ∷ [])
        ++ map text_of (again_after (map key (take (i + 1) ms)) (map key (drop (i + 1) ms))) ≡ target
    told_more once =
        rw (keys_next, append_assoc) (rw (rest_next, once) at so)

    pub told_as : (how_often (map key (take i ms)) (key (get_or ms i d)) == 1) ≡ false
        → told ++ map text_of (again_after (map key (take (i + 1) ms)) (map key (drop (i + 1) ms))) ≡ target
    told_as other = rw keys_next (rw (rest_next, other) at so)

    pub told_next : (b seen again : Bool) (new : List (List ℕ))
        → seen ≡ nat_lt 0 (how_often (map key (take i ms)) (key (get_or ms i d)))
        → again ≡ nat_lt 1 (how_often (map key (take i ms)) (key (get_or ms i d)))
        → b ≡ (seen && not again) → new ≡ told ++ (if b then text_of (key (get_or ms i d)) ∷ [] else [])
        → new ++ map text_of (again_after (map key (take (i + 1) ms)) (map key (drop (i + 1) ms))) ≡ target
    told_next b seen again new h k is are =
        let once = is ∙ rw (h, k) (second (how_often (map key (take i ms)) (key (get_or ms i d)))) in
        rw are (go b once)
      where
        go : (b : Bool) → b ≡ (how_often (map key (take i ms)) (key (get_or ms i d)) == 1)
            → (told ++ (if b then text_of (key (get_or ms i d)) ∷ [] else []))
            ++ map text_of (again_after (map key (take (i + 1) ms)) (map key (drop (i + 1) ms))) ≡ target
        go true e = told_more (sym e)
        go false e = rw (append-nil told) (told_as (sym e))
