-- Strings that are stored width by width: the one of a number, and one more.
use Rattle.std.proofs.Common.{◌≡◌, ℕ, zero, suc, ◌+◌, ◌*◌, ◌<◌, ◌≤◌, List, [], ◌∷◌, ◌++◌, take, drop, length, get_or, slice_get, Some, refl, ap, sym, subst, ◌∙◌, arith}
use Rattle.std.proofs.lemmas.Bool.{cases_lt}
use Rattle.std.proofs.lemmas.List.{drop-drop, length-drop, length-append, take-append-le, drop-append-le, take_at, length_push, get_or_append_left, get_or_push}
use Rattle.std.proofs.Math.Nat.{mul-le-mul_right, mul_comm}
use Rattle.dsa_seen.proofs.Cases.{either}
use Rattle.dsa_seen.specs.Chains.{strings_in, IsStoredByWidth}

pub length-strings_in : (width : ℕ) (stored lengths : List ℕ)
    → length (strings_in width stored lengths) ≡ length lengths
length-strings_in width stored [] = refl
length-strings_in width stored (n ∷ lengths) = ap suc (length-strings_in width (drop width stored) lengths)

-- the string of a number is the front of its width
pub strings_in-get : (width : ℕ) (stored lengths : List ℕ) (i : ℕ) → i < length lengths
    → slice_get (strings_in width stored lengths) i ≡ Some (take (get_or lengths i 0) (drop (width * i) stored))
strings_in-get width stored [] i h = absurd (omega arith)
strings_in-get width stored (n ∷ lengths) zero h =
    let at : width * 0 ≡ 0 = omega arith in ap (λ k. Some (take n (drop k stored))) (sym at)
strings_in-get width stored (n ∷ lengths) (suc i) h =
    let at : width + width * i ≡ width * suc i = omega arith in
    strings_in-get width (drop width stored) lengths i (omega arith)
    ∙ ap (λ (xs : List ℕ). Some (take (get_or lengths i 0) xs))
    (drop-drop (width * i) width stored ∙ ap (λ k. drop k stored) at)

-- the strings but for the first
stored-rest : (width : ℕ) (stored lengths : List ℕ) (n : ℕ) → IsStoredByWidth width stored (n ∷ lengths)
    → IsStoredByWidth width (drop width stored) lengths
stored-rest width stored lengths n is = record {
  filled =
      let all : length stored ≡ width * suc (length lengths) = is.filled in
      length-drop width stored ∙ omega arith;
  short = λ i within. is.short (suc i) (omega arith);
}

-- one more string, with what fills its width
pub strings_in-push : (width : ℕ) (stored lengths bytes fill : List ℕ) → IsStoredByWidth width stored lengths
    → strings_in width (stored ++ (bytes ++ fill)) (lengths ++ length bytes ∷ [])
    ≡ strings_in width stored lengths ++ bytes ∷ []
strings_in-push width [] [] bytes fill is =
    ap (λ (xs : List ℕ). xs ∷ []) (take_at bytes fill (length bytes) refl)
strings_in-push width (x ∷ stored) [] bytes fill is =
    let none : suc (length stored) ≡ width * 0 = is.filled in absurd (omega arith)
strings_in-push width stored (n ∷ lengths) bytes fill is =
    let all : length stored ≡ width * suc (length lengths) = is.filled in
    let short : n ≤ width = is.short 0 (omega arith) in
    let front : take n (stored ++ (bytes ++ fill)) ≡ take n stored
    = take-append-le n stored (bytes ++ fill) (omega arith) in
    let rest : drop width (stored ++ (bytes ++ fill)) ≡ drop width stored ++ (bytes ++ fill)
    = drop-append-le width stored (bytes ++ fill) (omega arith) in
    let more : strings_in width (drop width stored ++ (bytes ++ fill)) (lengths ++ length bytes ∷ [])
    ≡ strings_in width (drop width stored) lengths ++ bytes ∷ []
    = strings_in-push width (drop width stored) lengths bytes fill (stored-rest width stored lengths n is) in
    (λ j. front j ∷ strings_in width (rest j) (lengths ++ length bytes ∷ [])) ∙ ap (λ xs. take n stored ∷ xs) more

-- a string lies within what is stored
pub stored-within : (width : ℕ) (stored lengths : List ℕ) (i : ℕ) → IsStoredByWidth width stored lengths → i < length lengths
    → i * width + get_or lengths i 0 ≤ length stored
stored-within width stored lengths i is within =
    let short : get_or lengths i 0 ≤ width = is.short i within in
    let rows : (i + 1) * width ≤ length lengths * width = mul-le-mul_right width (omega arith) in
    let row : (i + 1) * width ≡ i * width + width = omega arith in
    omega (arith, mul_comm width (length lengths), is.filled)

-- one more width, with what is stored of a string and what fills the rest
pub stored-push : (width : ℕ) (stored lengths bytes fill : List ℕ) → IsStoredByWidth width stored lengths
    → length bytes + length fill ≡ width → IsStoredByWidth width (stored ++ (bytes ++ fill)) (lengths ++ length bytes ∷ [])
stored-push width stored lengths bytes fill is whole = record {
  filled =
      let all : length stored ≡ width * length lengths = is.filled in
      let more : width * (length lengths + 1) ≡ width * length lengths + width = omega arith in
      length-append stored (bytes ++ fill) ∙ ap (λ k. length stored + k) (length-append bytes fill ∙ whole)
      ∙ ap (λ k. k + width) all ∙ sym more ∙ ap (λ k. width * k) (sym (length_push lengths (length bytes)));
  short = λ i within. either (cases_lt i (length lengths))
      (λ before. subst (λ k. k ≤ width) (sym (get_or_append_left lengths (length bytes ∷ []) 0 i before)) (is.short i before))
      (λ not_before. let end : length lengths ≡ i = omega (arith, length_push lengths (length bytes)) in
      subst (λ k. k ≤ width) (sym (get_or_push lengths (length bytes) 0 i end)) (omega arith));
}
