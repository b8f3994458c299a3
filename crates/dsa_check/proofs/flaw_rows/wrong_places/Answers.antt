use Rattle.dsa_check.proofs.flaw_rows.wrong_places.Goals as goal
use Rattle.std.proofs.Common.{◌≡◌, ◌<◌, ◌≤◌, ℕ, zero, suc, true, List, take, codes, ap, refl, arith, lit≤}
use Rattle.std.specs.Prelude.{nat_eq, slice_index}
use Rattle.std.specs.{Char.{is_ascii_whitespace}, List.{ends_with}}
use Rattle.std.proofs.lemmas.Bool.{false≢true}
use Rattle.serde_json.proofs.OnLiterals.{serde_json_on_literals}
use Rattle.dsa_check.specs.declared.syntax.Piece.TheVariants.{Control, Tab}
use Rattle.dsa_check.specs.Places.{line_after}
use Rattle.dsa_check.proofs.RowTexts.{are_json, unread}

-- after the comma there is one blank
blank : (i : ℕ) → 3 ≤ i → i < 4 → is_ascii_whitespace (slice_index (codes "[1, ") i) ≡ true
blank i least most =
    let last : i ≡ 3 = omega (arith, least, most) in
    rw last refl

-- a text without a comma
none : (n : ℕ) (front : List ℕ) → front ≡ take n (codes "1") → ends_with nat_eq front (codes ",") ≡ true → ⊥
none zero front e ends = false≢true (rw e at ends)
none (suc zero) front e ends = false≢true (rw e at ends)
none (suc (suc n)) front e ends = false≢true (rw e at ends)

-- a text without a line feed has one line
one_line : (at : ℕ) → line_after (take at (codes "{\"\":0")) ≡ 1
one_line zero = refl
one_line (suc zero) = refl
one_line (suc (suc zero)) = refl
one_line (suc (suc (suc zero))) = refl
one_line (suc (suc (suc (suc zero)))) = refl
one_line (suc (suc (suc (suc (suc zero))))) = refl
one_line (suc (suc (suc (suc (suc (suc at)))))) = refl

pub returns : goal.returns
unfolding serde_json_on_literals
returns c = record {
  deep = λ before many wanted. (omega (arith, many), refl, wanted);
  less_deep = λ before few is. let many = is.0 in omega (arith, few, many);
  no_bracket = λ before is. false≢true is.1;
  no_value = λ is. let many = is.0 in omega (arith, many);
  no_value_in_many = λ is. unread _ refl is.2.1;
  openings = refl;
  comma = (
    record { front = codes "[1,"; trimmed = (3, refl, refl, lit≤ tt, blank, λ some. refl); comma = refl },
    (refl, refl),
  );
  other_bracket = λ is. omega (arith, ap (λ bytes. slice_index bytes 0) is.1.1);
  before_a_number = λ is. false≢true is.1.0;
  no_comma = λ is. none is.trimmed.0 is.front is.trimmed.1 is.comma;
  comment = refl;
  no_comment = λ is. false≢true is;
  unwanted = (refl, (codes "]", are_json _ _ (codes "[\"\"]", (refl, refl)) refl), tt);
  other_piece = λ is. let other : Tab ≡ Control = is.0 in absurd cc;
  other_wanted = λ is. unread _ refl is.1.1;
  other_place = λ is. omega (arith, is.2.line_there, one_line is.2.at);
}
