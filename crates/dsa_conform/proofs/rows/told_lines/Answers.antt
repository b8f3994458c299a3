use Rattle.dsa_conform.proofs.rows.told_lines.Goals as goal
use Rattle.std.proofs.Common.{◌≡◌, ◌≢◌, ◌≤◌, ◌⊎◌, ℕ, List, [], ◌∷◌, ap, arith, codes, inl, inr, lit≤, map, refl, sym}
use Rattle.std.proofs.Common.{subst}
use Rattle.std.proofs.Common.{◌∙◌, true, false, bytes_eq}
use Rattle.std.specs.{Prelude.{String, string_bytes}, declared.{alloc.Global.{Global}, vec.Vec.{Vec}}, Fmt.{digits}}
use Rattle.dsa_base.specs.Lists.{In}
use Rattle.dsa_scenario.specs.declared.run.Record.{Record}
use Rattle.dsa_conform.specs.{Allowed.{queue_taken}, declared.told.{Line.{Line}, Told.{Told}}}
use Rattle.dsa_conform.specs.Lines.{AreListed, allowed_line, difference_text}
use Rattle.dsa_conform.specs.ToldLines.{AreLinesTold, HasText, IsLineOf, line_as}
use Rattle.dsa_conform.proofs.RowWays.{to_one, to_two}
use Rattle.dsa_conform.specs.Worked.{answered, from_first, from_second, line_of, told_against, told_allowing}
use Rattle.dsa_conform.specs.Seen.{nothing_seen}

-- a line from the first queue before one from the second
listed : (one other : String Global) → (string_bytes one ≡ string_bytes other → ⊥)
    → AreListed (map line_as (line_of from_first one ∷ line_of from_second other ∷ []))
listed one other differ = record {
  order = (
    to_one (λ (later : Record × List ℕ). 0 ≤ queue_taken later.0) (line_as (line_of from_second other)) (lit≤ tt),
    ((λ later none. absurd none), tt),
  );
  once = (
    to_one (λ (later : Record × List ℕ). string_bytes one ≢ later.1) (line_as (line_of from_second other)) differ,
    ((λ later none. absurd none), tt),
  );
}

-- a line is that of an answer that is allowed
line_told : (entry : Record) (text why : String Global) (allowed : Vec Record Global) → In entry allowed.items
    → string_bytes text ≡ allowed_line (string_bytes why) entry
    → IsLineOf (line_of entry text) (told_allowing why allowed)
line_told entry text why allowed among is = (among, is)

pub returns-clause-lower : goal.returns-clause-lower
returns-clause-lower c text = record {
  inside = lit≤ tt;
  before = to_one (λ (line : Line). queue_taken line.entry ≤ 1) (line_of from_first text) (lit≤ tt);
  here = λ line is. absurd (grind (arith, is));
}

pub returns-clause-other_text : goal.returns-clause-other_text
returns-clause-other_text c text is has =
    to_one (λ (line : Line). string_bytes line.text ≡ codes "b" → ⊥) (line_of from_first text)
    (λ other. differ (sym is ∙ other)) has.0 has.1 has.2
  where
    differ : codes "a" ≡ codes "b" → ⊥
    differ same = grind (arith, same)

pub returns-clause-second : goal.returns-clause-second
returns-clause-second c one other first second = record {
  each = to_two (λ line. In line (line_of from_first one ∷ []) ⊎ (line_of from_second other ≡ line))
      (line_of from_first one) (line_of from_second other) (inl (inl refl)) (inr refl);
  all = to_one (λ line. In line (line_of from_first one ∷ line_of from_second other ∷ [])) (line_of from_first one)
      (inl refl);
  here = (line_of from_second other, inr (inl refl), refl);
  listed = λ before. listed one other (λ same. differ (sym first ∙ same ∙ second));
}
  where
    differ : codes "a" ≡ codes "b" → ⊥
    differ same = grind (arith, same)

pub returns-clause-not_allowed : goal.returns-clause-not_allowed
returns-clause-not_allowed c text why allowed is line =
    only_first (subst (λ l. In from_second l) is line.0)
  where
    only_first : In from_second (from_first ∷ []) → ⊥
    only_first (inl same) = omega (arith, ap queue_taken same)
    only_first (inr none) = none

pub returns-clause-other_line : goal.returns-clause-other_line
unfolding digits
returns-clause-other_line c text why allowed is line =
    let none : true ≡ false = ap (bytes_eq (codes "allowed: taken 0 from 2\n")) (sym is ∙ line.1) in
    absurd cc

pub returns-clause-added : goal.returns-clause-added
unfolding digits
returns-clause-added c one other why allowed is first second = record {
  each = to_two (λ line. In line (line_of from_first one ∷ []) ⊎ IsLineOf line (told_allowing why allowed))
      (line_of from_first one) (line_of from_second other) (inl (inl refl))
      (inr (line_told from_second other why allowed (subst (λ l. In from_second l) (sym is) (inl refl)) second));
  all = to_one (λ line. In line (line_of from_first one ∷ line_of from_second other ∷ [])) (line_of from_first one)
      (inl refl);
  here = to_one
      (λ entry. HasText (line_of from_first one ∷ line_of from_second other ∷ [])
      (allowed_line (string_bytes why) entry))
      from_second (line_of from_second other, inr (inl refl), second);
  listed = λ before. listed one other (λ same.
      let none : true ≡ false = ap (bytes_eq (codes "allowed: taken 0 from 0\n")) (sym first ∙ same ∙ second) in
      absurd cc);
}

pub returns-clause-not_told : goal.returns-clause-not_told
returns-clause-not_told c text why allowed is adds = neither (adds.each (line_of from_first text) (inl refl))
  where
    neither : In (line_of from_first text) [] ⊎ IsLineOf (line_of from_first text) (told_allowing why allowed) → ⊥
    neither (inl none) = none
    neither (inr line) = subst (λ l. In from_first l) is line.0

pub returns-clause-lost : goal.returns-clause-lost
returns-clause-lost c text why allowed adds = adds.all (line_of from_first text) (inl refl)

pub returns-clause-not_added : goal.returns-clause-not_added
returns-clause-not_added c why allowed adds = (adds.here from_first (inl refl)).1

-- the one line of the one device
lines_of_first : (line why fact : String Global) (allowed : Vec Record Global) → allowed.items ≡ from_first ∷ []
    → string_bytes line ≡ codes "allowed: taken 0 from 0\n"
    → AreLinesTold (told_against why fact allowed ∷ []) (line_of from_first line ∷ [])
unfolding digits
lines_of_first line why fact allowed is text = record {
  each = to_one (λ (l : Line). (told : Told) × In told (told_against why fact allowed ∷ []) × IsLineOf l told)
      (line_of from_first line) (
        told_against why fact allowed,
        inl refl,
        line_told from_first line why allowed (subst (λ l. In from_first l) (sym is) (inl refl)) text,
      );
  all = to_one
      (λ (told : Told). (entry : Record) → In entry told.allowed.items
      → HasText (line_of from_first line ∷ []) (allowed_line (string_bytes told.why) entry))
      (told_against why fact allowed)
      (λ entry among. to_one
      (λ e. HasText (line_of from_first line ∷ []) (allowed_line (string_bytes why) e))
      from_first (line_of from_first line, inl refl, text) entry
      (subst (λ l. In entry l) is among));
  listed = record { order = ((λ later none. absurd none), tt); once = ((λ later none. absurd none), tt) };
}

pub returns-clause-text : goal.returns-clause-text
unfolding digits
returns-clause-text c line why fact allowed is text told = record {
  lines = line_of from_first line ∷ [];
  of_told = lines_of_first line why fact allowed is text;
  is = sym (ap (λ t. difference_text 17 (answered (codes "idle")) (string_bytes fact) ((from_first, t) ∷ [])) text
      ∙ ap (λ f. difference_text 17 (answered (codes "idle")) f
      ((from_first, codes "allowed: taken 0 from 0\n") ∷ [])) told);
}

pub returns-clause-facts : goal.returns-clause-facts
returns-clause-facts c why first second allowed = refl

pub returns-clause-no_device : goal.returns-clause-no_device
returns-clause-no_device c text are = (are.each (line_of from_first text) (inl refl)).1

pub returns-clause-no_such_answer : goal.returns-clause-no_such_answer
returns-clause-no_such_answer c text why allowed is are =
    let told = are.each (line_of from_first text) (inl refl) in
    to_one (λ (told : Told). IsLineOf (line_of from_first text) told → ⊥) (told_allowing why allowed)
    (λ line. subst (λ l. In from_first l) is line.0) told.0 told.1 told.2

pub returns-clause-left_out : goal.returns-clause-left_out
returns-clause-left_out c why allowed is are =
    (are.all (told_allowing why allowed) (inl refl) from_first (subst (λ l. In from_first l) (sym is) (inl refl))).1

-- a text with a line is of a device
no_lines : (lines : List Line) → AreLinesTold [] lines
    → codes "a" ≡ difference_text 0 nothing_seen [] (map line_as lines) → ⊥
no_lines [] are is = absurd cc
no_lines (line ∷ lines) are is = (are.each line (inl refl)).1

pub returns-clause-no_text : goal.returns-clause-no_text
returns-clause-no_text c is = no_lines is.lines is.of_told is.is
