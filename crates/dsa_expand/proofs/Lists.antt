-- Lists, one item after the other.
use Rattle.std.proofs.Common.{◌≡◌, ◌<◌, ◌+◌, ℕ, Bool, List, [], ◌∷◌, Some, map, drop, get_or, length, refl, sym, ap, ◌∙◌}
use Rattle.std.proofs.Common.{take, ◌++◌}
use Rattle.std.proofs.lemmas.List.{drop_more, take_more, length-map}
use Rattle.std.proofs.Math.ListN.{get_or-map}
use Rattle.std.specs.{List.{list_any, list_all}, Prelude.{String, string_bytes}}
use Rattle.std.specs.declared.alloc.Global.{Global}
use Rattle.serde_json.specs.{Data.{Data}, Find.{as_object}, declared.value.Value.{Value}}
use Rattle.serde_json.specs.View.{view, items_of, members_view}
use Rattle.dsa_scenario.specs.Document.{list_of_items}
use Rattle.dsa_expand.specs.{Values.{pairs_of, pairs_in}, Steps.{Pair}}

-- the item at a place, and those after it
pub next_of : {X : Type 0} (xs : List X) (i : ℕ) (x : X) → i < length xs → x ≡ get_or xs i x
    → drop i xs ≡ x ∷ drop (i + 1) xs
next_of xs i x inside is = drop_more xs i x inside ∙ ap (λ y. y ∷ drop (i + 1) xs) (sym is)

-- a test of what items are
pub any_map : {X Y : Type 0} (f : X → Y) (test : Y → Bool) (xs : List X)
    → list_any (λ x. test (f x)) xs ≡ list_any test (map f xs)
any_map f test [] = refl
any_map f test (x ∷ xs) = rw (any_map f test xs) refl

-- the items of a JSON array
pub listed : (ds : List Data) → list_of_items (items_of ds) ≡ ds
listed [] = refl
listed (d ∷ ds) = ap (λ es. d ∷ es) (listed ds)

-- ---- members of an object

abbrev pub Entry : Type 0
Entry = String Global × Value

abbrev pub entry_pair : Entry → Pair
entry_pair e = (string_bytes e.0, view e.1)

pairs_each : (es : List Entry) → map entry_pair es ≡ pairs_in (members_view es)
pairs_each [] = refl
pairs_each (e ∷ es) = ap (λ ps. entry_pair e ∷ ps) (pairs_each es)

pub pairs_listed : (d : Data) (es all : List Entry) → Some (members_view es) ≡ as_object d → all ≡ es
    → map entry_pair all ≡ pairs_of d
pairs_listed d es all is same = rw (same, ← is) (pairs_each es)

-- a test of the keys alone
pub keys_pass : (d : Data) (es : List Entry) (keys : List (String Global)) (test : List ℕ → Bool)
    → Some (members_view es) ≡ as_object d → keys ≡ map (λ e. e.0) es
    → list_all test (map (λ (key : String Global). string_bytes key) keys) ≡ list_all (λ (p : Pair). test p.0) (pairs_of d)
keys_pass d es keys test is same = rw (same, ← is) (each es)
  where
    each : (es : List Entry)
        → list_all test (map (λ (key : String Global). string_bytes key) (map (λ e. e.0) es))
        ≡ list_all (λ (p : Pair). test p.0) (pairs_in (members_view es))
    each [] = refl
    each (e ∷ es) = rw (each es) refl

-- a list of which each item becomes something, with one item more
pub taken_more : {X Y : Type 0} (f : X → Y) (xs : List X) (i : ℕ) (x : X) → i < length xs
    → x ≡ get_or xs i x → take (i + 1) (map f xs) ≡ take i (map f xs) ++ f x ∷ []
taken_more f xs i x inside is =
    take_more (map f xs) i (f x) (rw (length-map xs f) inside)
    ∙ ap (λ y. take i (map f xs) ++ y ∷ []) (get_or-map f xs i x ∙ ap f (sym is))
