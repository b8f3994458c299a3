-- Chains of the strings of one place: a search along them, and one more string.
use Rattle.std.proofs.Common.{◌≡◌, ◌≢◌, ℕ, ◌+◌, ◌-◌, ◌<◌, ◌≤◌, List, [], ◌∷◌, ◌++◌, length, get_or, set, Contains, refl, ap, sym, subst, ◌∙◌, arith}
use Rattle.std.proofs.lemmas.List.{get_or_append_left, get_or_push, get_or-set_same, get_or-set_other, length-set, length_push, get_or_default}
use Rattle.std.proofs.lemmas.Bool.{cases_eq, cases_lt}
use Rattle.dsa_seen.proofs.Cases.{either}
use Rattle.dsa_seen.specs.Chains.{place_among, string_at, IsLatest, IsLinked}

-- of the strings of this place no one from the link on equals the bytes
pub record IsSearched (places : ℕ) (strings : List (List ℕ)) (bytes : List ℕ) (link : ℕ) : Type 0 where
  pub below : link ≤ length strings
  pub has : 0 < link → place_among places (string_at strings (link - 1)) ≡ place_among places bytes
  pub none : (i : ℕ) → link ≤ i → i < length strings → string_at strings i ≢ bytes

-- a place is one of those that there are
pub place-within : (places : ℕ) (bytes : List ℕ) → 0 < places → place_among places bytes < places
unfolding place_among
place-within places bytes some = omega arith

module _ (strings : List (List ℕ)) (heads nexts : List ℕ) (is : IsLinked strings heads nexts) (bytes : List ℕ) where
  -- a search begins at the head of the place
  pub searched-head : (place : ℕ) → place ≡ place_among (length heads) bytes → place < length heads
      → IsSearched (length heads) strings bytes (get_or heads place 0)
  searched-head place at within = let last = is.heads_last place within in record {
    below = last.below;
    has = λ some. last.has some ∙ at;
    none = λ i from to same. last.none_between i from to (ap (place_among (length heads)) same ∙ sym at);
  }

  -- and goes on to the next one
  pub searched-next : (link : ℕ) → 0 < link → IsSearched (length heads) strings bytes link
      → string_at strings (link - 1) ≢ bytes → IsSearched (length heads) strings bytes (get_or nexts (link - 1) 0)
  searched-next link some so_far other =
      let within : link - 1 < length strings = omega (arith, so_far.below) in
      let at : place_among (length heads) (string_at strings (link - 1)) ≡ place_among (length heads) bytes
      = so_far.has some in
      let last = is.nexts_last (link - 1) within in record {
        below = let low : get_or nexts (link - 1) 0 ≤ link - 1 = last.below in omega arith;
        has = λ more. last.has more ∙ at;
        none = λ i from to same. either (cases_lt i (link - 1))
            (λ before. last.none_between i from before (ap (place_among (length heads)) same ∙ sym at))
            (λ from_here. either (cases_eq i (link - 1)) (λ here. other (ap (string_at strings) (sym here) ∙ same))
            (λ apart. so_far.none i (omega arith) to same));
      }

  -- and ends where no link is left
  pub searched-all : IsSearched (length heads) strings bytes 0 → ¬ (Contains strings bytes)
  searched-all all found = all.none found.0 (omega arith) found.1
      (get_or_default strings found.0 [] bytes found.1 ∙ found.2)

-- what stands below stays
latest-push : (places : ℕ) (strings : List (List ℕ)) (bytes : List ℕ) (place link end : ℕ) → end ≤ length strings
    → IsLatest places strings place link end → IsLatest places (strings ++ bytes ∷ []) place link end
latest-push places strings bytes place link end within last = record {
  below = last.below;
  has = λ some. ap (place_among places)
      (get_or_append_left strings (bytes ∷ []) [] (link - 1) (omega (arith, last.below))) ∙ last.has some;
  none_between = λ i from to same. last.none_between i from to
      (sym (ap (place_among places) (get_or_append_left strings (bytes ∷ []) [] i (omega arith))) ∙ same);
}

module _ (strings : List (List ℕ)) (heads nexts bytes : List ℕ) (place : ℕ) (is : IsLinked strings heads nexts)
    (at : place ≡ place_among (length heads) bytes) (within : place < length heads) where
  -- a place's head, once the string is the last
  head-push : (p : ℕ) → p < length heads → IsLatest (length heads) (strings ++ bytes ∷ []) p
      (get_or (set heads place (length strings + 1)) p 0) (length (strings ++ bytes ∷ []))
  head-push p p_within = either (cases_eq p place)
      (λ same. subst (λ k. IsLatest (length heads) (strings ++ bytes ∷ []) p k (length (strings ++ bytes ∷ [])))
      (sym (ap (λ k. get_or (set heads place (length strings + 1)) k 0) same
      ∙ get_or-set_same heads place (length strings + 1) 0 within))
      (record {
        below = omega (arith, length_push strings bytes);
        has = λ some. let last : length strings + 1 - 1 ≡ length strings = omega arith in
            ap (λ k. place_among (length heads) (string_at (strings ++ bytes ∷ []) k)) last
            ∙ ap (place_among (length heads)) (get_or_push strings bytes [] (length strings) refl) ∙ sym at ∙ sym same;
        none_between = λ i from to here. omega (arith, length_push strings bytes);
      }))
      (λ apart. let last = is.heads_last p p_within in
      subst (λ k. IsLatest (length heads) (strings ++ bytes ∷ []) p k (length (strings ++ bytes ∷ [])))
      (sym (get_or-set_other heads place p (length strings + 1) 0 apart))
      (let more = latest-push (length heads) strings bytes p (get_or heads p 0) (length strings) (omega arith) last in
      record {
        below = let low : get_or heads p 0 ≤ length strings = more.below in omega (arith, length_push strings bytes);
        has = more.has;
        none_between = λ i from to here. either (cases_lt i (length strings))
            (λ before. more.none_between i from before here)
            (λ not_before. let end : i ≡ length strings = omega (arith, length_push strings bytes) in
            apart (sym here ∙ ap (λ k. place_among (length heads) (string_at (strings ++ bytes ∷ []) k)) end
            ∙ ap (place_among (length heads)) (get_or_push strings bytes [] (length strings) refl) ∙ sym at));
      }))

  -- a string's link, once this string is the last
  next-push : (i : ℕ) → i < length (strings ++ bytes ∷ []) → IsLatest (length heads) (strings ++ bytes ∷ [])
      (place_among (length heads) (string_at (strings ++ bytes ∷ []) i))
      (get_or (nexts ++ get_or heads place 0 ∷ []) i 0) i
  next-push i i_within = either (cases_lt i (length strings))
      (λ before.
      let string : string_at (strings ++ bytes ∷ []) i ≡ string_at strings i
      = get_or_append_left strings (bytes ∷ []) [] i before in
      let link : get_or (nexts ++ get_or heads place 0 ∷ []) i 0 ≡ get_or nexts i 0
      = get_or_append_left nexts (get_or heads place 0 ∷ []) 0 i (omega (arith, is.as_many)) in
      subst (λ s. IsLatest (length heads) (strings ++ bytes ∷ []) (place_among (length heads) s)
      (get_or (nexts ++ get_or heads place 0 ∷ []) i 0) i) (sym string)
      (subst (λ k. IsLatest (length heads) (strings ++ bytes ∷ [])
      (place_among (length heads) (string_at strings i)) k i) (sym link)
      (latest-push (length heads) strings bytes _ (get_or nexts i 0) i (omega arith) (is.nexts_last i before))))
      (λ not_before.
      let end : i ≡ length strings = omega (arith, length_push strings bytes) in
      let string : string_at (strings ++ bytes ∷ []) i ≡ bytes = get_or_push strings bytes [] i (sym end) in
      let link : get_or (nexts ++ get_or heads place 0 ∷ []) i 0 ≡ get_or heads place 0
      = get_or_push nexts (get_or heads place 0) 0 i (is.as_many ∙ sym end) in
      subst (λ s. IsLatest (length heads) (strings ++ bytes ∷ []) (place_among (length heads) s)
      (get_or (nexts ++ get_or heads place 0 ∷ []) i 0) i) (sym string)
      (subst (λ k. IsLatest (length heads) (strings ++ bytes ∷ [])
      (place_among (length heads) bytes) k i) (sym link)
      (subst (λ p. IsLatest (length heads) (strings ++ bytes ∷ []) p (get_or heads place 0) i) at
      (subst (IsLatest (length heads) (strings ++ bytes ∷ []) place (get_or heads place 0)) (sym end)
      (latest-push (length heads) strings bytes place (get_or heads place 0) (length strings) (omega arith)
      (is.heads_last place within))))))

  -- one more string, to which the head of its place leads, and which leads on to where that led
  pub linked-push : IsLinked (strings ++ bytes ∷ []) (set heads place (length strings + 1))
      (nexts ++ get_or heads place 0 ∷ [])
  linked-push = let places : length heads ≡ length (set heads place (length strings + 1))
      = sym (length-set heads place (length strings + 1)) in record {
        some = omega (arith, is.some);
        as_many = omega (arith, length_push nexts (get_or heads place 0), length_push strings bytes, is.as_many);
        heads_last = λ p p_within. subst (λ k. IsLatest k (strings ++ bytes ∷ []) p
            (get_or (set heads place (length strings + 1)) p 0) (length (strings ++ bytes ∷ [])))
            places (head-push p (omega arith));
        nexts_last = λ i i_within. subst (λ k. IsLatest k (strings ++ bytes ∷ [])
            (place_among k (string_at (strings ++ bytes ∷ []) i)) (get_or (nexts ++ get_or heads place 0 ∷ []) i 0) i)
            places (next-push i i_within);
      }
