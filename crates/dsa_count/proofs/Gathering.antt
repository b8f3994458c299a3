-- Lists and numbers that are made of one element after another.
use Rattle.std.proofs.Common.{◌≡◌, ◌<◌, ◌≤◌, ◌+◌, ◌∙◌, ℕ, List, [], ◌∷◌, ◌++◌, max, length, drop, get_or, sym, ap}
use Rattle.std.proofs.Common.{append_assoc, arith, Option}
use Rattle.std.proofs.lemmas.List.{drop_more, drop_all}
use Rattle.std.proofs.lemmas.List.Elements.{filter_map-append}
use Rattle.std.specs.List.{filter_map}
use Rattle.dsa_count.specs.declared.submissions.{Submission.{Submission}, Party.{Party}}
use Rattle.dsa_count.specs.Submissions.{above, number_in}

-- what h gives of one element more
pub gathered : {X Y : Type 0} (h : X → Option Y) (xs : List X) (i : ℕ) (d : X) (made more : List Y) → i < length xs
    → more ≡ made ++ filter_map h (get_or xs i d ∷ []) → made ++ filter_map h (drop i xs) ≡ filter_map h xs
    → more ++ filter_map h (drop (i + 1) xs) ≡ filter_map h xs
gathered h xs i d made more inside e so_far =
    let x = get_or xs i d in
    let rest = drop (i + 1) xs in
    let far : made ++ filter_map h ((x ∷ []) ++ rest) ≡ filter_map h xs = rw (drop_more xs i d inside) at so_far in
    rw e
    (append_assoc made (filter_map h (x ∷ [])) (filter_map h rest)
    ∙ ap (λ l. made ++ l) (sym (filter_map-append h (x ∷ []) rest)) ∙ far)

regroup : (a b c : ℕ) → max (max a b) c ≡ max a (max b c)
regroup a b c = omega arith

-- one number more
pub above-more : (party : Party) (ss : List Submission) (i most n more : ℕ) (d : Submission) → i < length ss
    → more ≡ max most (number_in party (get_or ss i d) + 1) → max most (above party (drop i ss)) ≡ n
    → max more (above party (drop (i + 1) ss)) ≡ n
above-more party ss i most n more d inside e h =
    let far : max most (max (number_in party (get_or ss i d) + 1) (above party (drop (i + 1) ss))) ≡ n =
    rw (drop_more ss i d inside) at h in
    rw e (regroup most (number_in party (get_or ss i d) + 1) (above party (drop (i + 1) ss)) ∙ far)

no-higher : (a n : ℕ) → max a 0 ≡ n → a ≡ n
no-higher a n h = omega arith

-- no number more
pub above-end : (party : Party) (ss : List Submission) (i most n : ℕ) → length ss ≤ i
    → max most (above party (drop i ss)) ≡ n → most ≡ n
above-end party ss i most n past h =
    let far : max most 0 ≡ n = rw (drop_all i ss past) at h in
    no-higher most n far
