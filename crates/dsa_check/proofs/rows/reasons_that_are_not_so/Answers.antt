use Rattle.dsa_check.proofs.rows.reasons_that_are_not_so.Goals as goal
use Rattle.std.proofs.Common.{ℕ, ap, arith}
use Rattle.std.proofs.lemmas.Bool.{false≢true}
use Rattle.dsa_scenario.specs.declared.fields.Form.{Form}
use Rattle.dsa_check.specs.declared.fields.Found.{Found}
use Rattle.dsa_check.specs.declared.finding.Reason.{Reason, TheVariants.{Unfit, OddDigits, NoDigit}}
use Rattle.dsa_scenario.specs.declared.fields.Form.TheVariants as form
use Rattle.dsa_check.specs.declared.fields.Found.TheVariants as found

-- what is found, the most that is wanted, and how many digits or which place a reason has
abbrev number_found : Found → ℕ
number_found (found.Whole n) = n
number_found other = 0

abbrev most_wanted : Form → ℕ
most_wanted (form.Whole least most) = most
most_wanted other = 0

abbrev number_in : Reason → ℕ
number_in (Unfit key found wanted) = number_found found
number_in (OddDigits key count) = count
number_in (NoDigit key at) = at
number_in other = 0

abbrev most_in : Reason → ℕ
most_in (Unfit key found wanted) = most_wanted wanted
most_in other = 0

pub returns : goal.returns
returns c = record {
  there = λ key is. absurd cc;
  nothing = λ key is. is;
  number = λ key is. omega (arith, ap number_in is);
  form = λ key is. omega (arith, ap most_in is);
  even = λ key is. absurd cc;
  count = λ key is. omega (arith, ap number_in is);
  few = λ key is. absurd cc;
  before = λ key is. omega (arith, ap number_in is);
  no_digits = λ key is. absurd cc;
  odd_and_many = λ key is. absurd cc;
  odd_and_a_letter = λ key is. absurd cc;
  no_value = λ key is. absurd cc;
  a_text = λ key is. false≢true is.0;
  first = λ key are. are.1;
  right = λ key are. are;
  silent = λ are. absurd cc;
  untold = λ is. false≢true is.plain;
  known = λ is. let none = is.none in absurd cc;
}
