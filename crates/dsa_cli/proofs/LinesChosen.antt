-- Lines that the options of `explain` choose, by computation.
use Rattle.std.proofs.Common.{◌≡◌, ◌∙◌, ℕ, List, [], Option, Some, None, codes, unwrap_or, refl, sym, ap}
use Rattle.std.specs.Str.Parse.{digits_value, without_leading_plus}
use Rattle.clap.specs.Walk.{Row, Text, first_of, one_of}
use Rattle.std.specs.Prelude.{option_and_then}
use Rattle.dsa_chosen.specs.{Words.{unknown_word}, Worked.{all_lines}}
use Rattle.dsa_cli.specs.CommandLine.{IsNumberGiven, IsSelectionOf}

-- the number that a text says
abbrev number_in : Option Text → ℕ
number_in o = digits_value 10 (without_leading_plus (unwrap_or o []))

-- an option that is given says the number of its text
pub says_given : (rows : List Row) (name : Text) (most : ℕ) (text : Text) {n : ℕ} → one_of name rows ≡ Some text
    → digits_value 10 (without_leading_plus text) ≡ n → IsNumberGiven rows name most (Some n)
says_given rows name most text has same = record {
  given = λ m says. ap Some (sym same ∙ sym (ap number_in has) ∙ ap number_in says.1 ∙ sym says.3);
  left_out = λ none. let both : Some text ≡ None = sym has ∙ none in cc;
}

-- an option that is not given says none
pub says_none : (rows : List Row) (name : Text) (most : ℕ) → one_of name rows ≡ None
    → IsNumberGiven rows name most None
says_none rows name most none = record {
  given = λ m says. let both : None ≡ Some says.0 = sym none ∙ says.1 in cc;
  left_out = λ same. refl;
}

-- where none of the options is given, all lines are chosen
pub none_chosen : (rows : List Row) → one_of (codes "name") rows ≡ None → one_of (codes "client") rows ≡ None
    → first_of (codes "only") rows ≡ None → IsSelectionOf rows all_lines
none_chosen rows name client only = record {
  name = says_none rows _ _ name;
  client = says_none rows _ _ client;
  answers = sym only;
  known = ap (option_and_then unknown_word) only;
}
