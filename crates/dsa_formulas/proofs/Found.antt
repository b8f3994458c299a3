-- What is found among the entries of all lists.
use Rattle.std.proofs.Common.{◌≡◌, ℕ, zero, suc, ◌+◌, ◌<◌, Bool, true, false, ◌||◌, List, [], ◌∷◌, ◌++◌, refl, sym, ap}
use Rattle.std.proofs.Common.{◌∙◌, map, length, take}
use Rattle.std.specs.List.{flat_map, list_any}
use Rattle.std.proofs.lemmas.List.{append-nil, take_more}
use Rattle.std.proofs.lemmas.List.Folds.{list_any-append}
use Rattle.std.proofs.lemmas.List.Concat.{flat_map-append}
use Rattle.dsa_store.specs.Content.{HeldEntry, Content, all_held, chain}

any-mapped : {X Y : Type 0} (p : Y → Bool) (f : X → Y) (xs : List X)
    → list_any (λ x. p (f x)) xs ≡ list_any p (map f xs)
any-mapped p f [] = refl
any-mapped p f (x ∷ xs) = ap (λ b. p (f x) || b) (any-mapped p f xs)

-- in lists whose elements are named otherwise
pub any-flat : {X Y : Type 0} (p : Y → Bool) (f : X → Y) (xss : List (List X))
    → list_any (λ x. p (f x)) (flat_map (λ list. list) xss) ≡ list_any p (flat_map (λ list. list) (map (map f) xss))
any-flat p f [] = refl
any-flat p f (xs ∷ xss) = list_any-append (λ x. p (f x)) xs (flat_map (λ list. list) xss)
    ∙ ap (λ b. b || list_any (λ x. p (f x)) (flat_map (λ list. list) xss)) (any-mapped p f xs)
    ∙ ap (λ b. list_any p (map f xs) || b) (any-flat p f xss)
    ∙ sym (list_any-append p (map f xs) (flat_map (λ list. list) (map (map f) xss)))

or-left : (a b : Bool) → a ≡ true → (a || b) ≡ true
or-left true b e = refl
or-left false b e = absurd cc

or-right : (a b : Bool) → b ≡ true → (a || b) ≡ true
or-right true b e = refl
or-right false b e = e

or-none : (a b : Bool) → a ≡ false → b ≡ false → (a || b) ≡ false
or-none true b e h = absurd cc
or-none false b e h = h

-- what is in one list is in all
pub any-one : (f : HeldEntry → Bool) (content : Content) (i : ℕ) → list_any f (chain content i) ≡ true
    → list_any f (all_held content) ≡ true
any-one f [] i h = absurd cc
any-one f (list ∷ lists) zero h = list_any-append f list (all_held lists) ∙ or-left _ _ h
any-one f (list ∷ lists) (suc i) h = list_any-append f list (all_held lists) ∙ or-right _ _ (any-one f lists i h)

-- one list more
pub any-more : (f : HeldEntry → Bool) (content : Content) (i : ℕ) → i < length content
    → list_any f (all_held (take i content)) ≡ false → list_any f (chain content i) ≡ false
    → list_any f (all_held (take (i + 1) content)) ≡ false
any-more f content i within none not-here =
    ap (λ (c : Content). list_any f (all_held c)) (take_more content i [] within)
    ∙ ap (list_any f) (flat_map-append (λ (list : List HeldEntry). list) (take i content) (chain content i ∷ []))
    ∙ list_any-append f (all_held (take i content)) (chain content i ++ [])
    ∙ or-none _ _ none (ap (list_any f) (append-nil (chain content i)) ∙ not-here)
