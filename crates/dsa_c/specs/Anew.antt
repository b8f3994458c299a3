-- What a call for a history that begins anew does.
use Rattle.std.specs.Prelude.{◌≡◌, ◌⊎◌, ℕ, ◌==◌, cond, None, Some, IsSomeAnd}
use Rattle.dsa_book.specs.declared.fate.PastFates.{PastFates, TheVariants.{Kept, Forgotten}}
use Rattle.dsa_device.specs.Running.{Running, running_anew}
use Rattle.dsa_c.specs.Place.{HeldDevice}
use Rattle.dsa_c.specs.declared.numbers.TheConstants.{ANEW_BEGUN, ANEW_NO_DEVICE, ANEW_NO_MEMORY}

-- what is to become of the fates of what ended: 0 says that they are forgotten
abbrev pub past_from_c : ℕ → PastFates
past_from_c keep_fates = cond (keep_fates == 0) Forgotten Kept

-- the history began anew, or memory was refused and the device is as it was
abbrev pub IsBegunOrRefused : PastFates → Running → ℕ → Running → Type 0
IsBegunOrRefused past before number after =
    ((number ≡ ANEW_BEGUN) × (after ≡ running_anew before past))
    ⊎ ((number ≡ ANEW_NO_MEMORY) × (after ≡ before))

-- the same of the device behind a handle; a handle of no device stays one, and the number says so
abbrev pub IsBeginning : PastFates → HeldDevice → ℕ → HeldDevice → Type 0
IsBeginning past None number after = (number ≡ ANEW_NO_DEVICE) × (after ≡ None)
IsBeginning past (Some machine) number after =
    IsSomeAnd after (λ then. IsBegunOrRefused past machine.device number then.device)
