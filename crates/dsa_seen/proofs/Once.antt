-- One more string, which was not there.
use Rattle.std.proofs.Common.{◌≡◌, ℕ, ◌<◌, ◌≤◌, List, [], ◌∷◌, ◌++◌, length, slice_get, Some, Contains, ap, sym, ◌∙◌, arith}
use Rattle.std.proofs.lemmas.List.{get_or_append_left, get_or_push, length_push}
use Rattle.std.proofs.lemmas.Option.{slice_get_within, slice_get-get_or, get_or_from_slice_get}
use Rattle.std.proofs.lemmas.Bool.{cases_lt}
use Rattle.dsa_seen.specs.Table.{HasOneNumberEach}
use Rattle.dsa_seen.proofs.Cases.{either}

module _ (strings : List (List ℕ)) (bytes : List ℕ) where
  -- a string that was there before
  was_there : (i : ℕ) (string : List ℕ) → slice_get (strings ++ bytes ∷ []) i ≡ Some string → i < length strings
      → slice_get strings i ≡ Some string
  was_there i string at before = slice_get-get_or strings i [] before ∙ ap (λ (s : List ℕ). Some s)
      (sym (get_or_append_left strings (bytes ∷ []) [] i before)
      ∙ get_or_from_slice_get (strings ++ bytes ∷ []) i string [] at)

  -- the string that came last
  is_last : (i : ℕ) (string : List ℕ) → slice_get (strings ++ bytes ∷ []) i ≡ Some string → length strings ≤ i
      → (i ≡ length strings) × (string ≡ bytes)
  is_last i string at not_before =
      let within : i < length (strings ++ bytes ∷ []) = slice_get_within (strings ++ bytes ∷ []) i string at in
      let end : i ≡ length strings = omega (arith, length_push strings bytes) in (
        end,
        sym (get_or_from_slice_get (strings ++ bytes ∷ []) i string [] at)
            ∙ get_or_push strings bytes [] i (sym end),
      )

  -- the last one was not there before
  not_twice : ¬ (Contains strings bytes) → (i : ℕ) (string : List ℕ) → slice_get strings i ≡ Some string → string ≡ bytes
      → ⊥
  not_twice new i string at same =
      new (i, slice_get_within strings i string at, get_or_from_slice_get strings i string bytes at ∙ same)

  pub once-push : HasOneNumberEach strings → ¬ (Contains strings bytes) → HasOneNumberEach (strings ++ bytes ∷ [])
  once-push once new i j string at_i at_j = either (cases_lt i (length strings))
      (λ i_before. either (cases_lt j (length strings))
      (λ j_before. once i j string (was_there i string at_i i_before) (was_there j string at_j j_before))
      (λ j_last. absurd (not_twice new i string (was_there i string at_i i_before) (is_last j string at_j j_last).1)))
      (λ i_last. either (cases_lt j (length strings))
      (λ j_before. absurd (not_twice new j string (was_there j string at_j j_before) (is_last i string at_i i_last).1))
      (λ j_last. (is_last i string at_i i_last).0 ∙ sym (is_last j string at_j j_last).0))
