use Rattle.dsa_check.proofs.rows.reasons_at_keys.Goals as goal
use Rattle.std.proofs.Common.{◌≡◌, ℕ, ap, arith, refl}
use Rattle.std.specs.Prelude.{Option, None, Some}
use Rattle.std.proofs.lemmas.Bool.{false≢true}
use Rattle.dsa_check.specs.declared.fields.Key.{Key}
use Rattle.dsa_check.specs.declared.finding.Reason.{Reason, TheVariants.{ManyDigits, OddDigits, NoDigit, Unfit}}
use Rattle.dsa_check.specs.Worked.{key_of_caps, key_of_a_step}

-- the key that a reason has
abbrev key_in : Reason → Option Key
key_in (ManyDigits key count) = Some key
key_in (OddDigits key count) = Some key
key_in (NoDigit key at) = Some key
key_in (Unfit key found wanted) = Some key
key_in other = None

abbrev count_in : Reason → ℕ
count_in (ManyDigits key count) = count
count_in other = 0

-- the two keys are of other objects
apart : key_of_a_step ≡ key_of_caps → ⊥
apart is = false≢true (ap (λ (key : Key). key.in_caps) is)

told_apart : Some key_of_a_step ≡ Some key_of_caps → ⊥
told_apart is = apart cc

pub returns : goal.returns
returns c = record {
  many = λ key. refl;
  most = λ key is. absurd cc;
  more = λ key is. omega (arith, ap count_in is);
  many_at_another = λ is. told_apart (ap key_in is);
  odd_at_another = λ is. told_apart (ap key_in is);
  letter_at_another = λ is. told_apart (ap key_in is);
  value_at_another = λ is. told_apart (ap key_in is);
  misspelled = λ key text. refl;
  misspelled_at_another = λ text is. apart is;
}
