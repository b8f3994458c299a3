-- Where the keys and the values of an object are in its text.
use Rattle.std.specs.Prelude.{◌≡◌, ◌≢◌, ◌<◌, ◌≤◌, ◌==◌, ◌||◌, ℕ, Bool, true, false, List, ◌++◌, take, drop, codes}
use Rattle.std.specs.Prelude.{slice_get, slice_range, nat_le, Option, Some, None, IsSomeAnd}
use Rattle.std.specs.List.{list_all}
use Rattle.serde_json.specs.{Data.{Data, null, boolean, string}, Find.{get}}
use Rattle.dsa_scenario.specs.Document.{IsJson}
use Rattle.dsa_check.specs.Places.{AreJson}

-- a JSON text is between these places, and the first of its bytes is no blank
pub record HasJsonBetween (text : List ℕ) (begin end : ℕ) : Type 0 where
  pub json : AreJson (slice_range text begin end)
  pub first : IsSomeAnd (slice_get (slice_range text begin end) 0) (λ byte. 32 < byte)

-- what takes the place of a value to see where it is: null, and where that is the value, false
abbrev pub other_text : Bool → List ℕ
other_text true = codes "false"
other_text false = codes "null"

abbrev pub other_value : Bool → Data
other_value true = boolean false
other_value false = null

-- the value that counts at the key is between these places: with another in its place the object has that one at the
-- key, which it had not
pub record IsValueAt (text : List ℕ) (d : Data) (key : List ℕ) (begin end : ℕ) : Type 0 where
  pub whole : HasJsonBetween text begin end
  pub is_null : Bool
  pub old : get key d ≢ Some (other_value is_null)
  pub object : Data
  pub changed : IsJson (take begin text ++ other_text is_null ++ drop end text) object
  pub new : get key object ≡ Some (other_value is_null)

-- a colon, or white space
abbrev pub is_gap : ℕ → Bool
is_gap byte = byte == 58 || nat_le byte 32

-- the key of the value that counts at it begins at this place: a text of the key, of which only a colon and white
-- space part the value
pub record IsKeyAt (text : List ℕ) (d : Data) (key : List ℕ) (begin : ℕ) : Type 0 where
  pub end : ℕ
  pub quote : slice_get text begin ≡ Some 34
  pub written : IsJson (slice_range text begin end) (string key)
  pub value : ℕ
  pub gap : list_all is_gap (slice_range text end value) ≡ true
  pub value_end : ℕ
  pub counts : IsValueAt text d key value value_end
