-- Texts that the worked rows speak of: those that are JSON, and those that are not.
use Rattle.std.proofs.Common.{◌≡◌, ℕ, zero, suc, List, take, codes, refl}
use Rattle.std.specs.Prelude.{IsUtf8, None, Some}
use Rattle.serde_json.specs.{Data.{Data}, Read.{read}}
use Rattle.dsa_check.specs.Places.{AreJson, line_after}

-- bytes that are read as a value
pub are_json : (bytes : List ℕ) (d : Data) → IsUtf8 bytes → read bytes ≡ Some d → AreJson bytes
are_json bytes d utf8 reads = (d, record { utf8 = utf8; value = reads })

-- bytes that are read as none
pub unread : (bytes : List ℕ) → read bytes ≡ None → AreJson bytes → ⊥
unread bytes none is =
    let value = is.1.value in
    absurd cc

-- a text of one digit has one line
pub one_line : (at : ℕ) → line_after (take at (codes "1")) ≡ 1
one_line zero = refl
one_line (suc zero) = refl
one_line (suc (suc at)) = refl
