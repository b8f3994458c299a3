-- The text of a JSON value.
use Rattle.std.specs.Prelude.{◌≡◌, ◌≤◌, ℕ, List, false, Some}
use Rattle.serde_json.specs.{Data.{Data, depth}, Read.{max_depth, read}, Written.{IsInOrder, compact_text, has_float}}

-- the text of a value: that with no space; of a value with floats one that has its items and members, each once and in
-- order. It is read as the value
pub record IsDataText (d : Data) (text : List ℕ) : Type 0 where
  pub compact : has_float d ≡ false → text ≡ compact_text d
  pub order : IsInOrder text d
  pub reads_back : depth d ≤ max_depth → read text ≡ Some d
