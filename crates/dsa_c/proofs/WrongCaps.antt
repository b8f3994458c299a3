-- Capabilities are refused exactly where one of them is wrong.
use Rattle.std.proofs.Common.{◌≡◌, ℕ, zero, suc, ◌^◌, Bool, true, false, not, cond, ◌&&◌, ◌||◌, List, [], ◌∷◌, refl, ap}
use Rattle.std.proofs.Common.{◌∙◌, Some, nat_lt, nat_le, is_some, find, option_map}
use Rattle.std.specs.List.{list_any}
use Rattle.dsa_base.specs.Rows.{first_row_or}
use Rattle.dsa_desc.specs.Descriptor.{is_within}
use Rattle.dsa_regs.specs.{declared.Caps.{Caps}, Caps.{check_caps}}
use Rattle.dsa_device.specs.declared.faults.MakeFault.TheVariants.{BadCaps, BadCapacity, OutOfMemory}
use Rattle.dsa_device.specs.Made.{opening_fault}
use Rattle.dsa_c.specs.Opening.{each_alone, first_wrong, opening_number}

-- something is found exactly where a test passes
found : {X : Type 0} (f : X → ℕ) (p : X → Bool) (xs : List X) → is_some (option_map f (find p xs)) ≡ list_any p xs
found f p [] = refl
found f p (x ∷ xs) = go (p x) (found f p xs)
  where
    go : (passes : Bool) → is_some (option_map f (find p xs)) ≡ list_any p xs
        → is_some (option_map f (cond passes (Some x) (find p xs))) ≡ (passes || list_any p xs)
    go true rest = refl
    go false rest = rest

-- a test before so many that pass
abbrev before : ℕ → Bool → Bool
before zero b = b
before (suc n) b = before n b && true

-- one of eight tests fails where it stands alone exactly where they do not all pass
alone : (q g e t r s b x : Bool)
    → list_any not (before 7 q ∷ before 6 g ∷ before 5 e ∷ before 4 t ∷ before 3 r ∷ before 2 s ∷ before 1 b ∷ x ∷ [])
    ≡ not (q && g && e && t && r && s && b && x)
alone false g e t r s b x = refl
alone true false e t r s b x = refl
alone true true false t r s b x = refl
alone true true true false r s b x = refl
alone true true true true false s b x = refl
alone true true true true true false b x = refl
alone true true true true true true false x = refl
alone true true true true true true true false = refl
alone true true true true true true true true = refl

pub one_is_wrong : (caps : Caps) → is_some (first_wrong caps) ≡ not (check_caps caps)
one_is_wrong caps =
    found (λ row. row.0) (λ row. not (check_caps row.1)) (each_alone caps)
    ∙ alone (is_within 1 64 caps.queues) (is_within 1 8 caps.groups) (is_within 1 64 caps.engines)
    (is_within 1 4096 caps.total_size) (is_within 1 255 caps.read_buffers) (is_within 1 16 caps.slots)
    (is_within 1 10 caps.max_batch_shift) (nat_le caps.max_xfer_shift 31)

-- the fault for which no device was opened has a number
pub has_number : (caps : Caps) (capacity : ℕ) → is_some (opening_number caps (opening_fault caps capacity)) ≡ true
has_number caps capacity = go (check_caps caps) refl (nat_lt (2 ^ 20) capacity)
  where
    go : (good : Bool) → check_caps caps ≡ good → (large : Bool)
        → is_some (opening_number caps (first_row_or
        ((not good, BadCaps) ∷ (large, BadCapacity) ∷ []) OutOfMemory)) ≡ true
    go false is large = one_is_wrong caps ∙ ap not is
    go true is false = refl
    go true is true = refl
