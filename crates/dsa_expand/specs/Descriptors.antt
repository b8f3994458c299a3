-- Descriptors as objects.
use Rattle.std.specs.Prelude.{ℕ, ◌^◌, Bool, false, if◌then◌else◌, List, [], ◌∷◌, Option, Some, None, codes}
use Rattle.std.specs.Prelude.{option_and_then, bytes_eq, find}
use Rattle.std.specs.{List.{list_all, list_any}, Int.Bits.{bit_or}}
use Rattle.serde_json.specs.{Data.{Data}, Find.{get, as_str, as_bool}}
use Rattle.hex.specs.Hex.{encode_lower}
use Rattle.dsa_base.specs.{Rows.{passes}, Numbers.{numbers_below}}
use Rattle.dsa_desc.specs.{declared.Descriptor.{Descriptor}, Descriptor.{operation_row, bytes_of}}
use Rattle.dsa_scenario.specs.Fields.{◌>>=◌}
use Rattle.dsa_expand.specs.Values.{number_below, or_default, pairs_of}

-- the code of the operation of this name
abbrev pub code_called : List ℕ → Option ℕ
code_called word = find (λ code. passes (λ row. bytes_eq word row.word) (operation_row code)) (numbers_below 6)

abbrev pub code_by : Data → Option (List ℕ) → Option ℕ
code_by d (Some word) = code_called word
code_by d None = number_below (2 ^ 8) d

-- an operation code, by its name or by its number (profile)
abbrev pub code_said : Data → Option ℕ
code_said d = code_by d (as_str d)

-- the flags, with bit 0 where there is a fence
abbrev pub flags_with : ℕ → Bool → ℕ
flags_with flags fence = if fence then bit_or flags 1 else flags

-- the keys of such an object (profile)
abbrev pub field_names : List (List ℕ)
field_names = codes "op" ∷ codes "size" ∷ codes "fence" ∷ codes "pasid" ∷ codes "flags" ∷ codes "note" ∷ []

abbrev pub is_field : List ℕ → Bool
is_field key = list_any (λ name. bytes_eq key name) field_names

-- the fields of a descriptor, where only the operation has to be said (profile)
abbrev pub fields_said : Data → Option Descriptor
fields_said d = do
  op ← option_and_then code_said (get (codes "op") d)
  size ← or_default 0 (number_below (2 ^ 32)) (get (codes "size") d)
  pasid ← or_default 0 (number_below (2 ^ 20)) (get (codes "pasid") d)
  flags ← or_default 0 (number_below (2 ^ 24)) (get (codes "flags") d)
  fence ← or_default false as_bool (get (codes "fence") d)
  Some (record { pasid = pasid; flags = flags_with flags fence; op = op; size = size })

-- the object has no other key
abbrev pub has_only_fields : Data → Bool
has_only_fields d = list_all (λ pair. is_field pair.0) (pairs_of d)

-- the descriptor that such an object says (profile)
abbrev pub descriptor_said : Data → Option Descriptor
descriptor_said d = if has_only_fields d then fields_said d else None

-- its 64 bytes in hexadecimal digits
abbrev pub digits_of_descriptor : Descriptor → List ℕ
digits_of_descriptor descriptor = encode_lower (bytes_of descriptor)
