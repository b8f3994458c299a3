-- Texts that options have.
use Rattle.std.proofs.Common.{◌≡◌, ◌∙◌, List, ℕ, Bor, Option, option_map, sym}
use Rattle.clap.{proofs.WalkLemmas.{first_value-rows}, specs.Matches.{first_value}}
use Rattle.clap.specs.{Walk.{Text, first_of, rows_of}, declared.parser.matches.Found.{Found}}

-- the text of an option is the one that was read
pub text_read : (found : Found) (name : Text) (read : Option (Bor (List ℕ))) (text : Option (List ℕ))
    → option_map (λ s. s.now) read ≡ first_value found name → option_map (λ s. s.now) read ≡ text
    → text ≡ first_of name (rows_of found)
text_read found name read text held same = sym same ∙ held ∙ first_value-rows found name
