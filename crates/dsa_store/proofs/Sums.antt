-- Sums over all entries of a store, as its calls change them. How often a cell is used, and how many
-- are held, are such sums.
use Rattle.std.proofs.Common.{◌≡◌, ℕ, zero, suc, ◌+◌, ◌<◌, ◌≤◌, Bool, true, not, cond, List, [], ◌∷◌, ◌++◌, drop}
use Rattle.std.proofs.Common.{length}
use Rattle.std.proofs.Common.{map, set, get_or, refl, sym, ap, ◌∙◌, arith}
use Rattle.std.proofs.lemmas.List.{Concat.{length-flat_map}, Elements.{filter-append}}
use Rattle.std.proofs.lemmas.List.Sums.{sum_by-cons, sum_by-append, sum_by_push, sum_by-set}
use Rattle.std.proofs.lemmas.List.Filters.{sum_by-filter_both}
use Rattle.std.specs.List.{filter, count_by, sum_by, remove}
use Rattle.dsa_store.specs.declared.entry.{Cell.{Cell}, Entry.{Entry}}
use Rattle.dsa_store.specs.Content.{HeldEntry, Content, is_cell, chain, place_count, use_count, held_count, after_push}
use Rattle.dsa_store.specs.Content.{without_front, after_unlink, after_set, all_held, is_free, only_where, StandsAt}
use Rattle.dsa_store.proofs.{Places.{list_any-absent, list_any-present}, Finding.{unlinked-at, replaced-at}}

-- a sum over all entries goes list by list
pub sum-lists : (f : HeldEntry → ℕ) (content : Content) → sum_by f (all_held content) ≡ sum_by (sum_by f) content
sum-lists f [] = refl
sum-lists f (l ∷ ls) = omega (arith, sum_by-append f l (all_held ls), sum_by-cons (sum_by f) l ls, sum-lists f ls)

-- another list in place of one
pub sum-set : (f : HeldEntry → ℕ) (content : Content) (i : ℕ) (l : List HeldEntry) → i < length content
    → sum_by f (all_held (set content i l)) + sum_by f (chain content i) ≡ sum_by f (all_held content) + sum_by f l
sum-set f content i l h =
    omega (arith, sum-lists f content, sum-lists f (set content i l), sum_by-set (sum_by f) content i l [] h)

-- ---- the words of the calls

pub sum-pushed : (f : HeldEntry → ℕ) (content : Content) (list : ℕ) (cell : Cell) (e : Entry) → list < length content
    → sum_by f (all_held (after_push content list cell e)) ≡ sum_by f (all_held content) + f (cell, e)
sum-pushed f content list cell e h =
    omega (
      arith,
      sum-set f content list (chain content list ++ (cell, e) ∷ []) h,
      sum_by_push f (chain content list)
          (cell, e),
    )

pub sum-without_front : (f : HeldEntry → ℕ) (content : Content) (list : ℕ) (s : HeldEntry) (rest : List HeldEntry)
    → list < length content → chain content list ≡ s ∷ rest
    → sum_by f (all_held (without_front content list)) + f s ≡ sum_by f (all_held content)
sum-without_front f content list s rest h is =
    omega (
      arith,
      sum-set f content list (drop 1 (chain content list)) h,
      sum_by-cons f s rest,
      ap (sum_by f) is,
      ap (λ l. sum_by f (drop 1 l)) is,
    )

sum-removed : (f : HeldEntry → ℕ) (l : List HeldEntry) (k : ℕ) (s : HeldEntry) → k < length l → get_or l k s ≡ s
    → sum_by f (remove l k) + f s ≡ sum_by f l
sum-removed f [] k s h is = absurd (omega arith)
sum-removed f (x ∷ l) zero s h is = omega (arith, sum_by-cons f x l, ap f is)
sum-removed f (x ∷ l) (suc k) s h is =
    omega (
      arith,
      sum_by-cons f x l,
      sum_by-cons f x (remove l k),
      sum-removed f l k s (omega arith) is,
    )

pub sum-unlinked : (f : HeldEntry → ℕ) (content : Content) (i k : ℕ) (cell : Cell) (e : Entry) → use_count content cell ≤ 1
    → i < length content → StandsAt content i k cell e
    → sum_by f (all_held (after_unlink content cell)) + f (cell, e) ≡ sum_by f (all_held content)
sum-unlinked f content i k cell e once hi at =
    let l = chain content i in
    omega (
      arith,
      ap (λ c. sum_by f (all_held c)) (unlinked-at content i k cell e once at),
      sum-set f content i (remove l k) hi,
      sum-removed f l k (cell, e) at.within at.pair,
    )

-- another entry in the cell, which counts as the one before it
pub sum-replaced : (f : HeldEntry → ℕ) (content : Content) (i k : ℕ) (cell : Cell) (e new : Entry)
    → use_count content cell ≤ 1 → i < length content → StandsAt content i k cell e → f (cell, new) ≡ f (cell, e)
    → sum_by f (all_held (after_set content cell new)) ≡ sum_by f (all_held content)
sum-replaced f content i k cell e new once hi at same =
    let l = chain content i in
    omega (
      arith,
      ap (λ c. sum_by f (all_held c)) (replaced-at content i k cell e new once at),
      sum-set f content i (set l k (cell, new)) hi,
      sum_by-set f l k (cell, new) (cell, e) at.within,
      ap f at.pair,
      same,
    )

-- ---- a test that each entry passes or not

-- what passes and what does not are all
pub sum-split : {X : Type 0} (f : X → ℕ) (test : X → Bool) (l : List X)
    → sum_by f (filter test l) + sum_by f (filter (λ x. not (test x)) l) ≡ sum_by f l
sum-split f test l = sum_by-filter_both test (λ x. not (test x)) (λ x. refl) f l

-- what passes of all, list by list
pub all_held-filtered : (test : HeldEntry → Bool) (content : Content)
    → all_held (map (filter test) content) ≡ filter test (all_held content)
all_held-filtered test [] = refl
all_held-filtered test (l ∷ ls) = ap (λ m. filter test l ++ m) (all_held-filtered test ls)
    ∙ sym (filter-append test l (all_held ls))

pub all_held-kept : (test : Entry → Bool) (content : Content)
    → all_held (only_where test content) ≡ filter (λ s. test s.1) (all_held content)
all_held-kept test content = all_held-filtered (λ s. test s.1) content

-- ---- counts are sums

pub uses-counted : (content : Content) (cell : Cell)
    → use_count content cell ≡ count_by (is_cell cell) (all_held content)
unfolding use_count place_count
uses-counted content cell = sym (sum-lists (λ s. cond (is_cell cell s) 1 0) content)

pub held-counted : (content : Content) → held_count content ≡ length (all_held content)
unfolding held_count
held-counted content = sym (length-flat_map (λ l. l) content)

count-all_held : (content : Content) (cell : Cell) → place_count cell (all_held content) ≡ use_count content cell
unfolding place_count
count-all_held content cell = sym (uses-counted content cell)

pub is_free-unused : (cells : ℕ) (content : Content) (cell : Cell) → is_free cells content cell ≡ true
    → (cell.0 < cells) × (use_count content cell ≡ 0)
is_free-unused cells content cell h =
    (grind (arith, h), grind (arith, h, count-all_held content cell, list_any-present cell (all_held content)))

pub unused-is_free : (cells : ℕ) (content : Content) (cell : Cell) → cell.0 < cells → use_count content cell ≡ 0
    → is_free cells content cell ≡ true
unused-is_free cells content cell below none =
    grind (arith, below, none, count-all_held content cell, list_any-absent cell (all_held content))
