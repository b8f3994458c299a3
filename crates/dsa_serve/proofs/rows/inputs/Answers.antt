use Rattle.dsa_serve.proofs.rows.inputs.Goals as goal
use Rattle.std.proofs.Common.{◌≢◌, ℕ, true, false, Bool, List, [], ◌∷◌, codes, refl, arith, lit≤}
use Rattle.std.{proofs.lemmas.List.Elements.{All-nil, All-cons, All-head}}
use Rattle.dsa_serve.specs.{declared.ending.Inside.TheVariants.{Brackets}, Input.{IsLine, IsFront}}
use Rattle.dsa_serve.proofs.Ends.{line_no_end}

-- bytes that are no line feed
no_bytes : IsLine []
no_bytes = All-nil (λ byte. byte ≢ 10)

one_more : (byte : ℕ) (bytes : List ℕ) → byte ≢ 10 → IsLine bytes → IsLine (byte ∷ bytes)
one_more byte bytes other line = All-cons (λ b. b ≢ 10) byte bytes other line

one : IsLine (codes "1")
one = one_more 49 [] (λ same. absurd (omega (arith, same))) no_bytes

two : IsLine (codes "2")
two = one_more 50 [] (λ same. absurd (omega (arith, same))) no_bytes

-- what is left out of a front
left_out : (ended : Bool) → ¬ IsFront ended (codes "1\n2") (codes "1") []
left_out true front =
    let all = front.0 in
    absurd cc
left_out false front =
    let all = front.0 in
    absurd cc

pub returns : goal.returns
returns c = record {
  line = one_more 49 (codes "2") (λ same. absurd (omega (arith, same))) two;
  two_lines = λ is. is 1 0 (omega arith) refl;
  lines = record {
    joined = refl;
    each = All-cons IsLine (codes "1") ([] ∷ []) one (All-cons IsLine [] [] no_bytes (All-nil IsLine));
    last = two;
  };
  without_line_feed = λ is. let joined = is.joined in absurd cc;
  line_feed_within = λ is. All-head IsLine (codes "1\n2") [] is.each 1 0 (omega arith) refl;
  line_feed_in_the_rest = λ is. is.last 1 0 (omega arith) refl;
  front = (refl, refl);
  front_alone = (refl, refl);
  front_with_more = λ is. let none = is.1 in absurd cc;
  front_without_line_feed = λ is. let whole = is.0 in absurd cc;
  front_with_a_bracket = λ is. let closed = is.1 in absurd cc;
  front_is_all = λ is. let all = is.0 in absurd cc;
  first = record { unended = refl; short = lit≤ tt; front = (refl, refl) };
  first_of_lines = record { unended = refl; short = lit≤ tt; front = (refl, refl) };
  first_with_a_text = record { unended = refl; short = lit≤ tt; front = (refl, refl) };
  first_at_the_end = record { unended = refl; short = lit≤ tt; front = (refl, refl) };
  first_cut = λ is. let closed = is.front.1 in absurd cc;
  first_alone = record { unended = refl; short = lit≤ tt; front = (refl, refl) };
  longest_first = λ first line long.
      record { unended = line_no_end (Brackets 0) first line; short = omega (arith, long); front = (refl, refl) };
  too_long_first = λ ended input first behind long is. let short = is.short in omega (arith, long, short);
  first_of_two_lines = λ ended is. let unended = is.unended in absurd cc;
  first_without_the_rest = λ ended is. left_out ended is.front;
}
