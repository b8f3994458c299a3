-- Why no device is made of bytes.
use Rattle.std.proofs.Common.{◌≡◌, ℕ, List, Result, Ok, Err}
use Rattle.std.specs.Prelude.{IfErr, OnOk}
use Rattle.dsa_device.specs.Running.{Running}
use Rattle.dsa_saved.specs.declared.faults.LoadFault.{LoadFault}
use Rattle.dsa_saved.specs.declared.faults.LoadFault.TheVariants.{Truncated, BadMagic, BadVersion, BadLength}
use Rattle.dsa_saved.specs.declared.faults.LoadFault.TheVariants.{BadChecksum, BadCaps, BadCapacity, OutOfMemory}
use Rattle.dsa_saved.specs.declared.faults.LoadFault.TheVariants.{BadEvent, BadStep}
use Rattle.dsa_saved.specs.{Steps.{HaveMade}, Faults.{HasStart, IsFirstFault, IsLoadFault}}
use Rattle.dsa_saved.specs.Faults.{records_in, first_in}

-- a fault of a record
pub of-record : (fault : LoadFault) (bytes : List ℕ) → HasStart bytes
    → IsFirstFault fault (records_in bytes) (first_in bytes) → IsLoadFault fault bytes
of-record Truncated bytes s f = absurd f.causes
of-record BadMagic bytes s f = absurd f.causes
of-record BadVersion bytes s f = absurd f.causes
of-record BadLength bytes s f = absurd f.causes
of-record BadChecksum bytes s f = absurd f.causes
of-record BadCaps bytes s f = absurd f.causes
of-record BadCapacity bytes s f = absurd f.causes
of-record OutOfMemory bytes s f = s
of-record (BadEvent number) bytes s f = (s, f)
of-record (BadStep number) bytes s f = (s, f)

-- and where a result has one
pub of-result : {A : Type 0} (r : Result A LoadFault) (bytes records : List ℕ) (first : Running) → HasStart bytes
    → records ≡ records_in bytes → first ≡ first_in bytes → IfErr r (λ fault. IsFirstFault fault records first)
    → IfErr r (λ fault. IsLoadFault fault bytes)
of-result (Ok x) bytes records first s these this f = tt
of-result (Err fault) bytes records first s these this f = of-record fault bytes s (rw (these, this) at f)

-- the steps that a result says were made
pub made-of : {A : Type 0} (r : Result A LoadFault) (bytes records : List ℕ) (first t : Running)
    → records ≡ records_in bytes → first ≡ first_in bytes → OnOk r (HaveMade records first t)
    → OnOk r (HaveMade (records_in bytes) (first_in bytes) t)
made-of (Ok x) bytes records first t these this h = rw (these, this) at h
made-of (Err fault) bytes records first t these this h = tt
