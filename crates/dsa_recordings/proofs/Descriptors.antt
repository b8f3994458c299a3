-- The hexadecimal digits of a descriptor are read as its bytes.
use Rattle.std.proofs.Common.{◌≡◌, ◌<◌, ◌^◌, ◌%◌, ◌/◌, ℕ, zero, suc, List, [], ◌∷◌, ◌++◌, length, replicate, Some, Ok}
use Rattle.std.proofs.Common.{refl, ap, ◌∙◌, arith}
use Rattle.std.specs.Int.{byte_at, bytes_low_first}
use Rattle.std.proofs.Math.Nat.{mod-lt}
use Rattle.byteorder.specs.Numbers.{little_number-reads_back}
use Rattle.hex.specs.Hex.{IsBytes, decode_pairs, lower_digits}
use Rattle.hex.proofs.HexLemmas.{IsDigits-lower_digits, decode_pairs-encode_with, length-encode_with}
use Rattle.dsa_desc.specs.{declared.Descriptor.{Descriptor}, Descriptor.{as_written, bytes_of, pasid_of, read}}
use Rattle.dsa_scenario.specs.Fields.{hex_bytes_of}
use Rattle.dsa_recordings.specs.{Recordings.{desc_digits}, Reading.{FitsDescriptor}}
use Rattle.dsa_recordings.proofs.Plain.{AreBytes}

bytes_at : (bytes : List ℕ) → AreBytes bytes → IsBytes bytes
bytes_at [] h i = omega arith
bytes_at (b ∷ bytes) h zero = h.0
bytes_at (b ∷ bytes) h (suc i) = bytes_at bytes h.1 i

append_bytes : (xs ys : List ℕ) → AreBytes xs → AreBytes ys → AreBytes (xs ++ ys)
append_bytes [] ys h k = k
append_bytes (x ∷ xs) ys h k = (h.0, append_bytes xs ys h.1 k)

zero_bytes : (n : ℕ) → AreBytes (replicate n 0)
zero_bytes zero = tt
zero_bytes (suc n) = (omega arith, zero_bytes n)

byte_small : (k x : ℕ) → byte_at k x < 256
byte_small zero x = mod-lt x (omega arith)
byte_small (suc k) x = mod-lt (x / 256 ^ suc k) (omega arith)

little_bytes : (i n x : ℕ) → AreBytes (bytes_low_first i n x)
little_bytes i zero x = tt
little_bytes i (suc n) x = (byte_small i x, little_bytes (suc i) n x)

pub bytes_are : (desc : Descriptor) → FitsDescriptor desc → AreBytes (bytes_of desc)
bytes_are desc h =
    let pasid = bytes_low_first 0 4 (pasid_of desc.pasid) in
    let flags = bytes_low_first 0 3 (desc.flags % 2 ^ 24) in
    let middle = desc.op ∷ replicate 24 0 in
    let size = bytes_low_first 0 4 desc.size in
    append_bytes (((pasid ++ flags) ++ middle) ++ size) (replicate 28 0)
    (append_bytes ((pasid ++ flags) ++ middle) size
    (append_bytes (pasid ++ flags) middle
    (append_bytes pasid flags (little_bytes 0 4 (pasid_of desc.pasid)) (little_bytes 0 3 (desc.flags % 2 ^ 24)))
    (omega (arith, h.0), zero_bytes 24))
    (little_bytes 0 4 desc.size))
    (zero_bytes 28)

digits_length : (desc : Descriptor) → length (desc_digits desc) ≡ 128
digits_length desc = length-encode_with lower_digits (bytes_of desc)

pub digits_read : (desc : Descriptor) → FitsDescriptor desc → hex_bytes_of (desc_digits desc) ≡ Some (bytes_of desc)
digits_read desc h =
    let long = digits_length desc in
    let decoded : decode_pairs 0 (desc_digits desc) ≡ Ok (bytes_of desc) =
    decode_pairs-encode_with lower_digits IsDigits-lower_digits 0 (bytes_of desc) (bytes_at (bytes_of desc) (bytes_are desc h)) in
    rw (long, decoded) refl

-- a descriptor by its fields
abbrev with_fields : ℕ → ℕ → ℕ → ℕ → Descriptor
with_fields op p f s = record { pasid = p; flags = f; op = op; size = s }

fields : (op p p' f f' s s' : ℕ) → p ≡ p' → f ≡ f' → s ≡ s' → with_fields op p f s ≡ with_fields op p' f' s'
fields op p p' f f' s s' e1 e2 e3 = rw (e1, e2, e3) refl

pub bytes_read : (desc : Descriptor) → FitsDescriptor desc → read (bytes_of desc) ≡ as_written desc
bytes_read desc h =
    fields desc.op _ (pasid_of desc.pasid) _ (desc.flags % 2 ^ 24) _ desc.size
    (ap pasid_of (little_number-reads_back 4 (pasid_of desc.pasid) [] (omega arith)) ∙ omega arith)
    (little_number-reads_back 3 (desc.flags % 2 ^ 24) [] (omega arith))
    (little_number-reads_back 4 desc.size [] (omega (arith, h.1)))
