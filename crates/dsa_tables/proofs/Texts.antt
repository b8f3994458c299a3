-- Rows and numbers, one after another.
use Rattle.std.proofs.Common.{◌≡◌, ◌<◌, ◌≤◌, ◌+◌, ◌∙◌, ℕ, Bool, true, false, List, [], ◌∷◌, ◌++◌, length, drop, get_or}
use Rattle.std.proofs.Common.{add-one, ap, append_assoc, refl}
use Rattle.std.proofs.lemmas.List.{drop_all, drop_more, flat_map_more}
use Rattle.std.specs.Prelude.{codes, filter, flat_map}
use Rattle.dsa_base.specs.Numbers.{numbers_below}
use Rattle.dsa_explore.specs.declared.found.Found.{Found}
use Rattle.dsa_tables.specs.{Words.{row_words}, Lines.{rows_words}}

-- what is told of the numbers below, and of one more
pub number-more : (f : ℕ → List ℕ) (n : ℕ) (o text new : List ℕ) → text ≡ o ++ flat_map f (numbers_below n)
    → new ≡ text ++ f n → new ≡ o ++ flat_map f (numbers_below (n + 1))
number-more f n o text new h e =
    rw add-one (e ∙ ap (λ l. l ++ f n) h ∙ flat_map_more f o (numbers_below n) n)

-- rows behind commas
commas : (labels : List (List ℕ)) (rows : List Found)
    → rows_words labels (codes ", ") [] rows ≡ flat_map (λ more. codes ", " ++ row_words labels more) rows
commas labels [] = refl
commas labels (row ∷ rows) = refl

-- one row more, which belongs to the part
pub row-more : (labels : List (List ℕ)) (p : Found → Bool) (rows : List Found) (i : ℕ) (d : Found)
    (mark none old new whole : List ℕ) → i < length rows → p (get_or rows i d) ≡ true
    → new ≡ old ++ (mark ++ row_words labels (get_or rows i d))
    → old ++ rows_words labels mark none (filter p (drop i rows)) ≡ whole
    → new ++ rows_words labels (codes ", ") [] (filter p (drop (i + 1) rows)) ≡ whole
row-more labels p rows i d mark none old new whole inside is e h =
    let row = get_or rows i d in
    let rest = filter p (drop (i + 1) rows) in
    let far : old ++ rows_words labels mark none (row ∷ rest) ≡ whole = rw (drop_more rows i d inside, is) at h in
    rw (e, commas labels rest)
    (append_assoc old (mark ++ row_words labels row) (flat_map (λ more. codes ", " ++ row_words labels more) rest) ∙ far)

-- one row more, which does not
pub row-passed : (labels : List (List ℕ)) (p : Found → Bool) (rows : List Found) (i : ℕ) (d : Found)
    (mark none text whole : List ℕ) → i < length rows → p (get_or rows i d) ≡ false
    → text ++ rows_words labels mark none (filter p (drop i rows)) ≡ whole
    → text ++ rows_words labels mark none (filter p (drop (i + 1) rows)) ≡ whole
row-passed labels p rows i d mark none text whole inside is h = rw (drop_more rows i d inside, is) at h

-- no row more
pub rows-end : (labels : List (List ℕ)) (p : Found → Bool) (rows : List Found) (i : ℕ)
    (mark none text new whole : List ℕ) → length rows ≤ i
    → text ++ rows_words labels mark none (filter p (drop i rows)) ≡ whole → new ≡ text ++ none → new ≡ whole
rows-end labels p rows i mark none text new whole past h e =
    let far : text ++ none ≡ whole = rw (drop_all i rows past) at h in
    e ∙ far
