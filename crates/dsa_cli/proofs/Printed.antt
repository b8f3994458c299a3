-- What was printed to a writer that refused nothing.
use Rattle.std.proofs.Common.{Result, Ok, Err, refl}
use Rattle.std.specs.Prelude.{OnOk, IsErr}

-- what holds where all was written holds, unless a write was refused
pub written : {A E : Type 0} (P : Type 0) (r : Result A E) → OnOk r P → (IsErr r → P) → P
written P (Ok a) all refused = all
written P (Err e) all refused = refused refl
