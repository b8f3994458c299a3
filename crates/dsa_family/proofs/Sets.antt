-- Values that are set at places.
use Rattle.std.proofs.Common.{◌≡◌, ◌≢◌, ◌<◌, ◌≤◌, ℕ, zero, suc, Bool, true, false, List, [], ◌∷◌, ◌++◌, length, get_or, refl}
use Rattle.std.proofs.Common.{sym, ap, ◌∙◌, arith, append_assoc, map, ne_eqb, Some, None}
use Rattle.std.proofs.Common.{string_bytes, cond, nat_cmp, is_eq}
use Rattle.std.proofs.Common.{slice_set}
use Rattle.std.proofs.lemmas.List.{Elements.{All-from_get_or}, Splits.{slice_split_at, slice_split_none}}
use Rattle.std.specs.Prelude.{◌==◌, if◌then◌else◌, option_map}
use Rattle.std.proofs.lemmas.Map.Text.{is_eq-slice_cmp}
use Rattle.std.specs.Cmp.Lexicographic.{slice_cmp}
use Rattle.std.specs.Map.{remove_entry}
use Rattle.std.specs.BTreeMap.{is_at}
use Rattle.serde_json.specs.Data.{Data, Members, array, item, member}
use Rattle.serde_json.specs.View.{view, items_view, members_view}
use Rattle.serde_json.specs.declared.value.Value.{Value}
use Rattle.serde_json.proofs.Views.{Entry}
use Rattle.dsa_scenario.specs.Fields.{◌>>=◌}
use Rattle.dsa_family.specs.Places.{child_at, keys_of_path, replace_item, set_at_place}
use Rattle.dsa_family.specs.Places.{with_child_at, with_item_at, without_member}
use Rattle.serde_json.specs.Find.{index_of}

-- ---- paths

-- the first key of a path, where a slash comes after it
pub keys-first : (path key more : List ℕ) → path ≡ key ++ 47 ∷ more → ((i : ℕ) → i < length key → get_or key i 0 ≢ 47)
    → keys_of_path path ≡ key ∷ keys_of_path more
keys-first path key more is lacks =
    ap keys_of_path is ∙ slice_split_at (λ x. x == 47) key 47 more (All-from_get_or (λ x. (x == 47) ≡ false) key 0 (λ i less. ne_eqb _ 47 (lacks i less))) refl

-- a path without a slash
pub keys-last : (path : List ℕ) → ((i : ℕ) → i < length path → get_or path i 0 ≢ 47) → keys_of_path path ≡ path ∷ []
keys-last path lacks = slice_split_none (λ x. x == 47) path (All-from_get_or (λ x. (x == 47) ≡ false) path 0 (λ i less. ne_eqb _ 47 (lacks i less)))

pub keys-more : (whole done : List (List ℕ)) (path key more : List ℕ) → whole ≡ done ++ keys_of_path path
    → path ≡ key ++ 47 ∷ more → ((i : ℕ) → i < length key → get_or key i 0 ≢ 47)
    → whole ≡ (done ++ key ∷ []) ++ keys_of_path more
keys-more whole done path key more so_far is lacks =
    so_far ∙ ap (λ x. done ++ x) (keys-first path key more is lacks)
    ∙ sym (append_assoc done (key ∷ []) (keys_of_path more))

pub keys-all : (whole done : List (List ℕ)) (path : List ℕ) → whole ≡ done ++ keys_of_path path
    → ((i : ℕ) → i < length path → get_or path i 0 ≢ 47) → done ++ path ∷ [] ≡ whole
keys-all whole done path so_far lacks = sym (so_far ∙ ap (λ x. done ++ x) (keys-last path lacks))

-- ---- values

-- an item of an array that is replaced
pub item-replaced : (vs : List Value) (i : ℕ) (v : Value) → i < length vs
    → replace_item i (view v) (items_view vs) ≡ Some (items_view (slice_set vs i v))
item-replaced [] i v inside = absurd (omega arith)
item-replaced (w ∷ vs) zero v inside = refl
item-replaced (w ∷ vs) (suc i) v inside = ap (option_map (item (view w))) (item-replaced vs i v (omega arith))

pub no-such-item : (vs : List Value) (i : ℕ) (d : Data) → length vs ≤ i → replace_item i d (items_view vs) ≡ None
no-such-item [] i d past = refl
no-such-item (w ∷ vs) zero d past = absurd (omega arith)
no-such-item (w ∷ vs) (suc i) d past = ap (option_map (item (view w))) (no-such-item vs i d (omega arith))

-- a value that is set at a place of more than one key
pub set_deeper : (key : List ℕ) (keys : List (List ℕ)) (d whole : Data) → 0 < length keys
    → set_at_place (key ∷ keys) d whole
    ≡ (child_at key whole >>= λ inner. set_at_place keys d inner >>= λ changed. with_child_at key changed whole)
set_deeper key [] d whole some = absurd (omega arith)
set_deeper key (next ∷ keys) d whole some = refl

without-removed-at : (b : Bool) (e : Entry) (es rest : List Entry) (ms : Members) → members_view rest ≡ ms
    → members_view (cond b es (e ∷ rest)) ≡ if b then members_view es else member (string_bytes e.0) (view e.1) ms
without-removed-at true e es rest ms is = refl
without-removed-at false e es rest ms is = ap (member (string_bytes e.0) (view e.1)) is

-- the members without the one at a name
pub without-removed : (name : List ℕ) (es : List Entry)
    → members_view (remove_entry (is_at (λ k. slice_cmp nat_cmp name (string_bytes k))) es)
    ≡ without_member name (members_view es)
without-removed name [] = refl
without-removed name (e ∷ es) =
    without-removed-at (is_eq (slice_cmp nat_cmp name (string_bytes e.0))) e es _ _ (without-removed name es)
    ∙ rw (is_eq-slice_cmp name (string_bytes e.0)) refl

-- ---- the code's goals

pub mapped-push : {X Y : Type 0} (f : X → Y) (xs : List X) (x : X) → map f (xs ++ x ∷ []) ≡ map f xs ++ f x ∷ []
mapped-push f [] x = refl
mapped-push f (y ∷ xs) x = ap (λ zs. f y ∷ zs) (mapped-push f xs x)

pub past-item : (key : List ℕ) (i : ℕ) (d : Data) (vs : List Value) → index_of key ≡ Some i → length vs ≤ i
    → None ≡ with_item_at key d (items_view vs)
past-item key i d vs is past = rw (is, no-such-item vs i d past) refl

pub item-there : (key : List ℕ) (i : ℕ) (v : Value) (vs : List Value) → index_of key ≡ Some i → i < length vs
    → Some (array (items_view (slice_set vs i v))) ≡ with_item_at key (view v) (items_view vs)
item-there key i v vs is inside = rw (is, item-replaced vs i v inside) refl
