-- The line that a descriptor prints as.
use Rattle.std.specs.Prelude.{ℕ, ◌-◌, ◌^◌, false, if◌then◌else◌, List, [], ◌++◌, Option, option_map, unwrap_or, codes}
use Rattle.std.specs.Fmt.{decimal, digits, format_spec, padded_integral}
use Rattle.dsa_desc.specs.{declared.Descriptor.{Descriptor}, Descriptor.{is_batch, operation_row}}

-- the name of an operation code (Intel DSA specification, operation codes)
abbrev pub operation_name : ℕ → Option (List ℕ)
operation_name op = option_map (λ row. row.name) (operation_row op)

-- the number in hexadecimal with zeros in front up to a width, as the format 06x writes it
abbrev pub hexadecimal : ℕ → ℕ → List ℕ
hexadecimal width n = padded_integral (format_spec 32 0 4 width (2 ^ 64 - 1)) false [] (digits 16 false n)

-- the name of the operation, or its code where it has no name (profile)
abbrev pub operation_text : ℕ → List ℕ
operation_text op = unwrap_or (operation_name op) (codes "Operation 0x" ++ hexadecimal 2 op)

-- flags in six hexadecimal digits (profile)
abbrev pub flags_text : ℕ → List ℕ
flags_text flags = codes "0x" ++ hexadecimal 6 flags

-- what the size of a descriptor counts (Intel DSA specification, descriptor format)
abbrev pub size_label : Descriptor → List ℕ
size_label d = if is_batch d then codes "count" else codes "size"

-- operation, PASID, flags, and size or count (profile)
abbrev pub line_of_descriptor : Descriptor → List ℕ
line_of_descriptor d =
    operation_text d.op ++ (codes ", PASID " ++ (decimal d.pasid ++ (codes ", flags " ++ (flags_text d.flags
    ++ (codes ", " ++ (size_label d ++ (codes " " ++ decimal d.size)))))))
