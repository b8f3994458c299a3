-- What may stand in a text, and what begins with it.
use Rattle.std.proofs.Common.{◌≡◌, ◌++◌, ℕ, List, [], true, sym, subst, codes}
use Rattle.std.proofs.lemmas.List.{append_assoc, append-nil}
use Rattle.dsa_check.specs.declared.syntax.Wanted.{Wanted}
use Rattle.dsa_check.specs.declared.syntax.Wanted.TheVariants as wanted
use Rattle.dsa_check.specs.{Flaws.{IsWantedAfter, takes_text}, Places.{AreJson, BeginJson}}

-- what begins with more begins with less
pub begins_less : (before text : List ℕ) → BeginJson (before ++ text) → BeginJson before
begins_less before text begins = (text ++ begins.0, subst AreJson (append_assoc before text begins.0) begins.1)

-- what is JSON begins JSON
pub begins_all : (bytes : List ℕ) → AreJson bytes → BeginJson bytes
begins_all bytes json = ([], subst AreJson (sym (append-nil bytes)) json)

-- one sign of a longer text
quoted : (before more : List ℕ) → BeginJson (before ++ (codes "\"" ++ more)) → BeginJson (before ++ codes "\"")
quoted before more begins =
    begins_less (before ++ codes "\"") more (subst BeginJson (sym (append_assoc before (codes "\"") more)) begins)

-- a double quote may stand where a text may
pub quote_allowed : (before : List ℕ) (it : Wanted) → takes_text it ≡ true → IsWantedAfter before it
    → IsWantedAfter before wanted.DoubleQuote
quote_allowed before wanted.Document takes is = quoted before (codes "\"") is
quote_allowed before wanted.Value takes is = quoted before (codes "\"") is
quote_allowed before wanted.FirstItem takes is = quoted before (codes "\"") is
quote_allowed before wanted.Item takes is = quoted before (codes "\"") is
quote_allowed before wanted.FirstKey takes is = quoted before (codes "\":0") is
quote_allowed before wanted.Key takes is = quoted before (codes "\":0") is
quote_allowed before wanted.Colon takes is = absurd cc
quote_allowed before (wanted.More in_array) takes is = absurd cc
quote_allowed before (wanted.Closing is_array line column) takes is = absurd cc
quote_allowed before wanted.Nothing takes is = absurd cc
quote_allowed before wanted.Word takes is = absurd cc
quote_allowed before wanted.Digit takes is = absurd cc
quote_allowed before wanted.NoZero takes is = absurd cc
quote_allowed before wanted.InRange takes is = absurd cc
quote_allowed before wanted.DoubleQuote takes is = absurd cc
quote_allowed before (wanted.Quote line column) takes is = absurd cc
quote_allowed before wanted.Escaped takes is = absurd cc
quote_allowed before wanted.Escape takes is = absurd cc
quote_allowed before wanted.HexDigit takes is = absurd cc
quote_allowed before wanted.Pair takes is = absurd cc
quote_allowed before wanted.Depth takes is = absurd cc
