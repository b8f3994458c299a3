-- What is found in a text.
use Rattle.std.proofs.Common.{◌≡◌, ◌<◌, ℕ, Bool, true, List, [], ◌∷◌}
use Rattle.std.specs.Prelude.{Result, Ok, Err, IfOk, IsSomeAnd, slice_get}
use Rattle.std.specs.List.{AllByRecursion}
use Rattle.serde_json.specs.Data.{Data}
use Rattle.dsa_scenario.specs.Document.{IsJson}
use Rattle.dsa_check.specs.declared.finding.Reason.{Reason}
use Rattle.dsa_check.specs.{Findings.{IsWrongAt}, Places.{AreTextOf}}

-- a text of one value is one of the other, where they are the same
pub text_of_same : {E : Type 0} (bytes : List ℕ) (d other : Data) (r : Result Bool E) → IsJson bytes d
    → IsSomeAnd (slice_get bytes 0) (λ byte. 32 < byte) → IfOk r (λ same. same ≡ true → d ≡ other)
    → IfOk r (λ is. is ≡ true → AreTextOf other bytes)
text_of_same bytes d other (Ok same) json first h = λ e. record { json = rw (← h e) json; first = first }
text_of_same bytes d other (Err e) json first h = tt

-- one reason
pub one_wrong : (bytes : List ℕ) (at : ℕ) (reason : Reason) (reasons : List Reason) → reasons ≡ reason ∷ []
    → IsWrongAt bytes at reason → AllByRecursion (IsWrongAt bytes at) reasons
one_wrong bytes at reason reasons e h = rw e (h, tt)
