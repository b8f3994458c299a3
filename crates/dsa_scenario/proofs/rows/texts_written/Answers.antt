use Rattle.dsa_scenario.proofs.rows.texts_written.Goals as goal
use Rattle.std.proofs.Common.{◌≡◌, ◌++◌, ◌<◌, ℕ, List, [], ap, arith, codes, length, length-append, lit≤, refl, take}
use Rattle.std.proofs.lemmas.List.{length-take}
use Rattle.std.specs.Prelude.{None}

pub returns-clause-whole : goal.returns-clause-whole
returns-clause-whole c = (codes "ab", codes "ab", (refl, refl, lit≤ tt), refl, refl)

-- one byte is no text of two
too_few : (bytes text : List ℕ) → codes "ab" ≡ bytes ++ [] → bytes ≡ text → codes "xb" ≡ codes "x" ++ text → ⊥
too_few bytes text had is holds =
    omega (arith, ap length had, ap length is, ap length holds, length-append bytes [], length-append (codes "x") text)

pub returns-clause-another : goal.returns-clause-another
returns-clause-another c is = too_few is.0 is.1 is.2.0 is.3 is.4

pub returns-clause-cut : goal.returns-clause-cut
returns-clause-cut c = (codes "ab", codes "ab", None, 1, (refl, refl, lit≤ tt), refl, lit≤ tt, refl)

-- the whole text is not cut
all_there : (bytes text : List ℕ) (count : ℕ) → codes "ab" ≡ bytes ++ [] → bytes ≡ text → count < length text
    → codes "xab" ≡ codes "x" ++ take count text → ⊥
all_there bytes text count had is short holds = omega (
  arith,
  ap length had,
  ap length is,
  ap length holds,
  short,
  length-append bytes [],
  length-append (codes "x") (take count text),
  length-take count text,
)

pub returns-clause-not_cut : goal.returns-clause-not_cut
returns-clause-not_cut c is = all_there is.0 is.1 is.3 is.4.0 is.5 is.6 is.7

pub returns-clause-more_left : goal.returns-clause-more_left
returns-clause-more_left c is = omega (arith, ap length is.2.1)

pub returns-clause-more_left_of_a_cut : goal.returns-clause-more_left_of_a_cut
returns-clause-more_left_of_a_cut c is = omega (arith, ap length is.4.1)
