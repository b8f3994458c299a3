-- The keys of an object stand in it.
use Rattle.std.proofs.Common.{◌≡◌, Ordering, Less, Equal, Greater, Bool, true, ℕ, List, [], ◌∷◌, map, refl}
use Rattle.std.specs.Prelude.{Option, Some, is_some, String, string_bytes, bytes_eq}
use Rattle.std.specs.Ordering.{nat_cmp, match_ordering}
use Rattle.std.specs.Cmp.Lexicographic.{slice_cmp}
use Rattle.std.specs.List.{AllByRecursion, list_any}
use Rattle.std.specs.declared.alloc.Global.{Global}
use Rattle.std.proofs.lemmas.Cmp.{nat_list_cmp_total, tied_itself}
use Rattle.serde_json.specs.{Data.{Data, null, boolean, number, string, array, object, Members}, Find.{get}}
use Rattle.serde_json.specs.Find.{get_member, as_object}
use Rattle.dsa_scenario.specs.{declared.fields.Field.{Field}, Fields.{row_of_field}}
use Rattle.serde_json.specs.{View.{view, members_view}, declared.value.Value.{Value}}

-- the object that a value is
pub object_is : (d : Data) (ms : Members) → Some ms ≡ as_object d → d ≡ object ms
object_is null ms e = cc
object_is (boolean b) ms e = cc
object_is (number n) ms e = cc
object_is (string s) ms e = cc
object_is (array ds) ms e = cc
object_is (object ns) ms e = cc

-- what a key finds behind others
found_behind : (r : Ordering) (e : Data) (o : Option Data) → is_some o ≡ true
    → is_some (match_ordering r o (Some e) o) ≡ true
found_behind Less e o h = h
found_behind Equal e o h = refl
found_behind Greater e o h = h

-- the key of each entry finds something
finds_each : (entries : List (String Global × Value))
    → AllByRecursion (λ key. is_some (get_member (string_bytes key) (members_view entries)) ≡ true)
    (map (λ e. e.0) entries)
finds_each [] = tt
finds_each (e ∷ es) = (here, behind (map (λ f. f.0) es) (finds_each es)) where
  here : is_some (get_member (string_bytes e.0) (members_view (e ∷ es))) ≡ true
  here = rw (tied_itself nat_list_cmp_total (string_bytes e.0)) refl

  behind : (keys : List (String Global))
      → AllByRecursion (λ key. is_some (get_member (string_bytes key) (members_view es)) ≡ true) keys
      → AllByRecursion (λ key. is_some (get_member (string_bytes key) (members_view (e ∷ es))) ≡ true) keys
  behind [] h = tt
  behind (key ∷ keys) h = (
    found_behind (slice_cmp nat_cmp (string_bytes key) (string_bytes e.0)) (view e.1)
        (get_member (string_bytes key) (members_view es)) h.0,
    behind keys h.1,
  )

-- and so in the value that the object is
pub finds_in : (d : Data) (entries : List (String Global × Value)) (keys : List (String Global))
    → Some (members_view entries) ≡ as_object d → keys ≡ map (λ e. e.0) entries
    → AllByRecursion (λ key. is_some (get (string_bytes key) d) ≡ true) keys
finds_in d entries keys is all = rw (object_is d (members_view entries) is, all) (finds_each entries)

-- a key is asked for by the names of fields as by their rows
pub asked_by : (fields : List Field) (name : List ℕ) (b : Bool)
    → b ≡ list_any (λ field. bytes_eq field.name.now name) fields
    → b ≡ list_any (λ row. bytes_eq row.0 name) (map row_of_field fields)
asked_by [] name b h = h
asked_by (field ∷ fields) name b h = rw (← asked_by fields name _ refl) h
