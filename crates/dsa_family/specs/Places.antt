-- Places in a JSON value: keys of objects and numbers of items in arrays.
use Rattle.std.specs.Prelude.{ℕ, zero, suc, ◌==◌, bytes_eq, if◌then◌else◌, List, [], ◌∷◌, Option, Some, None, option_map}
use Rattle.std.specs.{List.{slice_split}, Option.{option_or}}
use Rattle.serde_json.specs.Data.{Data, array, object, Items, no_items, item, Members, no_members, member, put}
use Rattle.serde_json.specs.Find.{get, at, index_of}
use Rattle.dsa_scenario.specs.Fields.{◌>>=◌}

-- the keys and numbers of a path, which `/` separates (profile)
abbrev pub keys_of_path : List ℕ → List (List ℕ)
keys_of_path path = slice_split (λ byte. byte == 47) path

-- what an object has at the key, or an array at the number, of which the first is 0 (profile)
abbrev pub child_at : List ℕ → Data → Option Data
child_at key d = option_or (get key d) (index_of key >>= λ i. at i d)

-- the items, with d as number i; an array has to have that item
abbrev pub replace_item : ℕ → Data → Items → Option Items
replace_item i d no_items = None
replace_item zero d (item e es) = Some (item d es)
replace_item (suc i) d (item e es) = option_map (item e) (replace_item i d es)

abbrev pub with_item_at : List ℕ → Data → Items → Option Data
with_item_at key d es = index_of key >>= λ i. option_map array (replace_item i d es)

-- the value with d there; an object may lack the key (profile)
abbrev pub with_child_at : List ℕ → Data → Data → Option Data
with_child_at key d (object ms) = Some (object (put key d ms))
with_child_at key d (array es) = with_item_at key d es
with_child_at key d _ = None

-- the whole with d at this place; all but the last key has to be there (profile)
abbrev pub set_at_place : List (List ℕ) → Data → Data → Option Data
set_at_place [] d whole = None
set_at_place (key ∷ []) d whole = with_child_at key d whole
set_at_place (key ∷ keys) d whole =
    child_at key whole >>= λ inner. set_at_place keys d inner >>= λ changed. with_child_at key changed whole

-- the members without the one at the key
abbrev pub without_member : List ℕ → Members → Members
without_member key no_members = no_members
without_member key (member other d ms) = if bytes_eq key other then ms else member other d (without_member key ms)

-- the object without what it has at the key
abbrev pub without_key : List ℕ → Data → Data
without_key key (object ms) = object (without_member key ms)
without_key key d = d
