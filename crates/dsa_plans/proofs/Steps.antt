-- One step more behind those that are read.
use Rattle.std.proofs.Common.{◌≡◌, ◌∙◌, ◌<◌, ◌+◌, ℕ, List, [], ◌∷◌, ◌++◌, Option, Some, map, drop, get_or, length, refl}
use Rattle.std.proofs.Common.{sym, ap}
use Rattle.std.proofs.lemmas.List.{drop_more}
use Rattle.serde_json.specs.{Data.{Data}, View.{view}, declared.value.Value.{Value}}
use Rattle.dsa_plans.specs.Said.{each_onto, read_onto}

-- the item at a place, and those after it
next_of : {X : Type 0} (xs : List X) (i : ℕ) (x : X) → i < length xs → x ≡ get_or xs i x
    → drop i xs ≡ x ∷ drop (i + 1) xs
next_of xs i x inside is = drop_more xs i x inside ∙ ap (λ y. y ∷ drop (i + 1) xs) (sym is)

pub each-next : {A : Type 0} (reading : Data → Option A) (done : List A) (xs : List Value) (i : ℕ) (x : Value) (a : A)
    → i < length xs → x ≡ get_or xs i x → reading (view x) ≡ Some a
    → each_onto (read_onto reading) done (map view (drop i xs))
    ≡ each_onto (read_onto reading) (done ++ a ∷ []) (map view (drop (i + 1) xs))
each-next reading done xs i x a inside is e =
    ap (λ ys. each_onto (read_onto reading) done (map view ys)) (next_of xs i x inside is) ∙ rw e refl
