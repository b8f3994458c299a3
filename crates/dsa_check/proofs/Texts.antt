-- Texts that are appended one behind another.
use Rattle.std.proofs.Common.{◌≡◌, ℕ, List, ◌++◌, if◌then◌else◌, refl}
use Rattle.std.specs.Prelude.{Result, Ok, Err, OnOk, is_ok}
use Rattle.std.proofs.lemmas.List.{append_assoc}

-- a text that was pushed
pub pushed : {T E : Type 0} (r : Result T E) (old text new : List ℕ)
    → new ≡ (if is_ok r then (old ++ text) else old) → OnOk r (new ≡ old ++ text)
pushed (Ok x) old text new h = h
pushed (Err e) old text new h = tt

-- a text behind another
pub behind : {T E : Type 0} (r : Result T E) (old first middle second new : List ℕ) → middle ≡ old ++ first
    → OnOk r (new ≡ middle ++ second) → OnOk r (new ≡ old ++ (first ++ second))
behind (Ok x) old first middle second new before h = rw (h, before, append_assoc) refl
behind (Err e) old first middle second new before h = tt
