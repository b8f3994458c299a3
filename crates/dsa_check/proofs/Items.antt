-- What is told of the items of a list in turn, one item more.
use Rattle.std.proofs.Common.{◌≡◌, ◌<◌, ◌+◌, ℕ, suc, List, [], ◌∷◌, ◌++◌, map, length, take, get_or}
use Rattle.std.proofs.Common.{refl, sym, ap, ◌∙◌, arith, Some}
use Rattle.std.proofs.lemmas.List.{append_assoc, append-nil, take_more, length-map, length-take-le}
use Rattle.std.proofs.lemmas.Option.{slice_get-get_or}
use Rattle.std.proofs.Math.ListN.{get_or-map}
use Rattle.std.specs.Prelude.{slice_get}
use Rattle.serde_json.specs.{Data.{Data}, View.{view}, declared.value.Value.{Value}}

item_is : (vs : List Value) (i : ℕ) (v : Value) → v ≡ get_or vs i v → get_or (map view vs) i (view v) ≡ view v
item_is vs i v is = get_or-map view vs i v ∙ ap view (sym is)

-- the item of this number is this one
pub item_at : (vs : List Value) (i : ℕ) (v : Value) → i < length vs → v ≡ get_or vs i v
    → slice_get (map view vs) i ≡ Some (view v)
item_at vs i v inside is =
    let inside' : i < length (map view vs) = rw (length-map vs view) inside in
    slice_get-get_or (map view vs) i (view v) inside' ∙ ap Some (item_is vs i v is)

-- what `all` tells of items, which is what `one` tells of each in turn, with its number
module _ {T : Type 0} (one : ℕ → Data → List T) (all : ℕ → List Data → List T) (none : (n : ℕ) → all n [] ≡ [])
    (next : (n : ℕ) (d : Data) (ds : List Data) → all n (d ∷ ds) ≡ one n d ++ all (suc n) ds) where
  all-more : (n : ℕ) (ds : List Data) (d : Data) → all n (ds ++ d ∷ []) ≡ all n ds ++ one (n + length ds) d
  all-more n [] d =
      let same : n + length {A = Data} [] ≡ n = omega arith in
      rw (same, next n d [], none (suc n), none n) (append-nil (one n d))
  all-more n (x ∷ xs) d =
      let place : n + length (x ∷ xs) ≡ suc n + length xs = omega arith in
      rw (next n x (xs ++ d ∷ []), next n x xs, all-more (suc n) xs d, place, append_assoc) refl

  pub item_more : (vs : List Value) (i : ℕ) (v : Value) (old told : List T) → i < length vs → v ≡ get_or vs i v
      → told ≡ old ++ all 0 (take i (map view vs)) → told ++ one i (view v) ≡ old ++ all 0 (take (i + 1) (map view vs))
  item_more vs i v old told inside is h =
      let inside' : i < length (map view vs) = rw (length-map vs view) inside in
      let long : length (take i (map view vs)) ≡ i = length-take-le i (map view vs) (omega arith) in
      let place : 0 + length (take i (map view vs)) ≡ i = omega arith in
      rw (
        h,
        take_more (map view vs) i (view v) inside',
        item_is vs i v is,
        all-more 0 (take i (map view vs)) (view v),
        place,
        append_assoc,
      ) refl
