-- What is wrong with one line that is no JSON, in words.
use Rattle.std.specs.Prelude.{◌≡◌, ℕ, List, ◌++◌, take, codes, decimal, IsUtf8, Option, Some, IfSome}
use Rattle.dsa_check.specs.declared.finding.Reason.{Reason, TheVariants.{NotUtf8}}
use Rattle.dsa_check.specs.{Findings.{IsWrongAt}, Lines.{known_text}, Places.{column_after}}

-- the column of a place in the line, and what is wrong there (profile)
abbrev pub flaw_text : ℕ → Option Reason → List ℕ
flaw_text column reason = codes "column " ++ (decimal column ++ codes ": ") ++ known_text reason

-- the text tells a place in the line, and what is wrong there: a JSON text begins with what is before it. Of bytes that
-- are no UTF-8 that alone is told
pub record IsFlawText (line text : List ℕ) : Type 0 where
  pub at : ℕ
  pub reason : Option Reason
  pub wrong : IfSome reason (IsWrongAt line at)
  pub of_utf8 : (IsUtf8 line → ⊥) → reason ≡ Some NotUtf8
  pub told : text ≡ flaw_text (column_after (take at line)) reason
