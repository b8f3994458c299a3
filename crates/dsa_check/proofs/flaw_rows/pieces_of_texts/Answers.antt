use Rattle.dsa_check.proofs.flaw_rows.pieces_of_texts.Goals as goal
use Rattle.std.proofs.Common.{◌≡◌, ◌<◌, ℕ, zero, suc, [], take, codes, ap, refl, arith}
use Rattle.std.specs.Prelude.{slice_index}
use Rattle.std.proofs.lemmas.Bool.{false≢true}
use Rattle.dsa_check.specs.declared.syntax.Piece.TheVariants.{End, LineBreak, Tab, Number, Word}

-- no front of the text is this, and none but the empty one is empty
other : (n : ℕ) → 0 < n → codes "3" ≡ take n (codes "12,") → ⊥
other zero h e = absurd cc
other (suc n) h e =
    let first : 51 ≡ 49 = ap (λ bytes. slice_index bytes 0) e in
    omega (arith, first)

none : (n : ℕ) → 0 < n → [] ≡ take n (codes "12,") → ⊥
none zero h e = omega (arith, h)
none (suc n) h e = absurd cc

pub returns : goal.returns
returns c = record {
  end = refl;
  no_end = λ is. let told : End ≡ Number = is.told in absurd cc;
  sign = refl;
  other_sign = λ is. let told : LineBreak ≡ Tab = is in absurd cc;
  untold_sign = λ text is. absurd cc;
  told = λ text is. record { count = 2; some = omega arith; told = (is, refl) };
  other_text = λ text told is. other is.count is.some (rw told at is.told.0);
  no_text = λ text told is. none is.count is.some (rw told at is.told.0);
  not_plain = λ text is. false≢true is.1;
  number = record { count = 1; some = omega arith; told = refl };
  no_word = λ is. let told : Word ≡ Number = is.told in absurd cc;
}
