-- Items in places, one after the other.
use Rattle.std.proofs.Common.{◌≡◌, ℕ, zero, suc, ◌-◌, ◌≤◌, min, List, [], ◌∷◌, ◌++◌, length, take, drop, refl, ◌∙◌, false, ◌==◌}
use Rattle.std.proofs.Common.{ap, sym, arith}
use Rattle.std.proofs.lemmas.{List.{set_past}}
use Rattle.std.specs.List.{slice_set}
use Rattle.dsa_c.specs.Buffers.{with_items, with_items_from, text_for_c}

-- where there is no item nothing is written
pub none_written : (places : List ℕ) → with_items places [] ≡ places
none_written [] = refl
none_written (place ∷ places) = refl

-- behind the last place nothing is written
pub past : (n : ℕ) (items places : List ℕ) → length places ≤ n → with_items_from n items places ≡ places
past n [] places h = refl
past n (item ∷ items) places h = rw (set_past places n item h) (past (suc n) items places (omega (arith, h)))

-- without a first place
later : (n : ℕ) (items places : List ℕ) (place : ℕ)
    → with_items_from (suc n) items (place ∷ places) ≡ place ∷ with_items_from n items places
later n [] places place = refl
later n (item ∷ items) places place = later (suc n) items (slice_set places n item) place

-- from the first place on they are the first items
pub from-first : (items places : List ℕ) → with_items_from 0 items places ≡ with_items places items
from-first [] [] = refl
from-first [] (place ∷ places) = refl
from-first (item ∷ items) [] = past 1 items [] (omega arith)
from-first (item ∷ items) (place ∷ places) = later 0 items places item ∙ ap (λ l. item ∷ l) (from-first items places)

-- behind the last place one item more makes no difference
pub past-more : (n item : ℕ) (items places : List ℕ) → length places ≤ n
    → with_items_from n items places ≡ with_items_from n (item ∷ items) places
past-more n item items places h = past n items places h ∙ sym (past n (item ∷ items) places h)

-- what fits of a text, and the zero behind it
text-fits : (place : ℕ) (places text : List ℕ) (shown : ℕ) → shown ≡ min (length text) (length places)
    → take shown text ++ slice_set (drop shown (place ∷ places)) 0 0
    ≡ with_items (place ∷ places) (take (length places) text ++ 0 ∷ [])
text-fits place [] text shown is =
    let none : shown ≡ 0 = omega (arith, is) in rw none refl
text-fits place (other ∷ places) [] shown is =
    let none : shown ≡ 0 = omega (arith, is) in rw none refl
text-fits place (other ∷ places) (byte ∷ text) zero is = absurd (omega (arith, is))
text-fits place (other ∷ places) (byte ∷ text) (suc shown) is =
    ap (λ l. byte ∷ l) (text-fits other places text shown (omega (arith, is)))

pub text-written : (places text : List ℕ) (shown : ℕ) → (length places == 0) ≡ false
    → shown ≡ min (length text) (length places - 1) → take shown text ++ slice_set (drop shown places) 0 0
    ≡ with_items places (text_for_c (length places) text)
text-written [] text shown some is = absurd cc
text-written (place ∷ places) text shown some is = text-fits place places text shown (omega (arith, is))

-- what is written first, and the places behind it
pub all-fits : (places items : List ℕ) → length items ≤ length places
    → items ++ drop (length items) places ≡ with_items places items
all-fits [] [] room = refl
all-fits [] (item ∷ items) room = absurd (omega (arith, room))
all-fits (place ∷ places) [] room = refl
all-fits (place ∷ places) (item ∷ items) room = ap (λ l. item ∷ l) (all-fits places items (omega (arith, room)))
