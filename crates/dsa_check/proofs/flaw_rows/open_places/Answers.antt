use Rattle.dsa_check.proofs.flaw_rows.open_places.Goals as goal
use Rattle.std.proofs.Common.{◌≡◌, ℕ, zero, suc, codes, take, refl, arith}
use Rattle.serde_json.proofs.OnLiterals.{serde_json_on_literals}
use Rattle.dsa_check.specs.{Flaws.{GoesOnFrom}, Places.{column_after}}
use Rattle.dsa_check.proofs.RowTexts.{are_json, unread}

-- one array has ended, and one has not
outer : GoesOnFrom (codes "[[1") 0 91 → ⊥
unfolding serde_json_on_literals
outer is = unread _ refl is

-- no sign but the first has column 1
first : (at : ℕ) → 1 ≡ column_after (take at (codes "[[1")) → at ≡ 0
first zero e = refl
first (suc zero) e = absurd (omega (arith, e))
first (suc (suc zero)) e = absurd (omega (arith, e))
first (suc (suc (suc zero))) e = absurd (omega (arith, e))
first (suc (suc (suc (suc at)))) e = absurd (omega (arith, e))

pub returns : goal.returns
unfolding serde_json_on_literals
returns c = record {
  ends = refl;
  inner = are_json _ _ (codes "[1,0]", (refl, refl)) refl;
  outer = outer;
  ended = λ is. unread _ refl is;
  other_end = λ is. unread _ refl is;
  nothing = tt;
  something = outer;
  begun_outside = λ is. outer (rw (first is.at is.column_there) at is.goes_on);
}
