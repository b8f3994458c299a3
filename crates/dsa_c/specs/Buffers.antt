-- What a call writes to places of C.
use Rattle.std.specs.Prelude.{ℕ, zero, suc, List, [], ◌∷◌, ◌++◌, length, take, slice_set}

-- these places, with the items in the first of them, as far as there are places
abbrev pub with_items : List ℕ → List ℕ → List ℕ
with_items [] items = []
with_items (place ∷ places) [] = place ∷ places
with_items (place ∷ places) (item ∷ items) = item ∷ with_items places items

-- the same from the place of this number on
abbrev pub with_items_from : ℕ → List ℕ → List ℕ → List ℕ
with_items_from n [] places = places
with_items_from n (item ∷ items) places = with_items_from (suc n) items (slice_set places n item)

-- a text in so many places: what fits of its bytes before the zero that ends it
abbrev pub text_for_c : ℕ → List ℕ → List ℕ
text_for_c zero text = []
text_for_c (suc room) text = take room text ++ 0 ∷ []

-- these places, with the text in the first of them
abbrev pub with_text_for_c : List ℕ → List ℕ → List ℕ
with_text_for_c places text = with_items places (text_for_c (length places) text)
