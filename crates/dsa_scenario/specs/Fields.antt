-- Fields of a JSON object, and tables of them.
use Rattle.dsa_scenario.specs.declared.fields.Form.TheVariants as form
use Rattle.std.specs.Prelude.{ℕ, zero, suc, ◌-◌, ◌^◌, ◌%◌, ◌==◌, ◌||◌, nat_lt, Bool, if◌then◌else◌, List, [], ◌∷◌, ◌++◌}
use Rattle.std.specs.Prelude.{length, replicate, Option, Some, None, option_and_then, Result, Ok, Err}
use Rattle.serde_json.specs.{Data.{Data, Items, Members}, Find.{get, as_number, as_u64, as_bool, as_str, as_array}}
use Rattle.serde_json.specs.Find.{as_object}
use Rattle.hex.specs.Hex.{decode_pairs}
use Rattle.dsa_scenario.specs.declared.fields.{Form.{Form}, Field.{Field}}

-- the second step, where the first gave a value
infixl 10 ◌>>=◌
abbrev pub ◌>>=◌ : {A B : Type 0} → Option A → (A → Option B) → Option B
o >>= f = option_and_then f o

-- a number below the limit
abbrev pub below_limit : ℕ → ℕ → Option ℕ
below_limit limit n = if nat_lt n limit then Some n else None

-- the whole number without sign at the key, where it is below the limit (profile)
abbrev pub whole_of : ℕ → List ℕ → Data → Option ℕ
whole_of limit key d = option_and_then (below_limit limit)
    (option_and_then as_u64 (option_and_then as_number (get key d)))

-- the truth value at the key (profile)
abbrev pub truth_of : List ℕ → Data → Option Bool
truth_of key d = option_and_then as_bool (get key d)

-- the text at the key (profile)
abbrev pub text_of : List ℕ → Data → Option (List ℕ)
text_of key d = option_and_then as_str (get key d)

-- the bytes, with zeros past their end
abbrev pub padded : {E : Type 0} → Result (List ℕ) E → Option (List ℕ)
padded (Ok bytes) = Some (bytes ++ replicate (64 - length bytes) 0)
padded (Err e) = None

-- the 64 bytes of a text of hexadecimal digits in either case, an even number of them and at most 128 (profile)
abbrev pub hex_bytes_of : List ℕ → Option (List ℕ)
hex_bytes_of text = if (length text % 2 == 1) || nat_lt 128 (length text) then None else padded (decode_pairs 0 text)

-- and those of the text at the key (profile)
abbrev pub digits_of : List ℕ → Data → Option (List ℕ)
digits_of key d = option_and_then hex_bytes_of (text_of key d)

-- ---- tables

-- a key, and what may stand there
abbrev pub Row : Type 0
Row = List ℕ × Form

abbrev pub row_of_field : Field → Row
row_of_field field = (field.name.now, field.form)

-- a whole number without sign, of so many bits
abbrev pub bits : ℕ → Form
bits n = form.Whole 0 (2 ^ n - 1)

-- what is read where such a form is wanted
abbrev pub Reading : Form → Type 0
Reading (form.Whole least most) = ℕ
Reading (form.Bounded field least most) = ℕ
Reading form.Truth = Bool
Reading form.Text = List ℕ
Reading form.Digits = List ℕ
Reading form.Array = Items
Reading form.Object = Members

-- a number that is no less
abbrev pub at_least : ℕ → ℕ → Option ℕ
at_least zero n = Some n
at_least (suc less) n = if nat_lt less n then Some n else None

-- what stands at the key, where it is of the form (profile)
abbrev pub reading_at : (wanted : Form) → List ℕ → Data → Option (Reading wanted)
reading_at (form.Whole least most) key d = option_and_then (at_least least) (whole_of (suc most) key d)
reading_at (form.Bounded field least most) key d = whole_of (suc field) key d
reading_at form.Truth key d = truth_of key d
reading_at form.Text key d = text_of key d
reading_at form.Digits key d = digits_of key d
reading_at form.Array key d = option_and_then as_array (get key d)
reading_at form.Object key d = option_and_then as_object (get key d)

-- what makes a value of what is read at each key of a table
abbrev pub Maker : Type 0 → List Row → Type 0
Maker A [] = A
Maker A (row ∷ rows) = Reading row.1 → Maker A rows

-- that value, where the object has each key of the table (profile)
abbrev pub made_of : {A : Type 0} (rows : List Row) → Maker A rows → Data → Option A
made_of [] made d = Some made
made_of (row ∷ rows) made d = reading_at row.1 row.0 d >>= λ reading. made_of rows (made reading) d
