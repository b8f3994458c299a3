use Rattle.dsa_serve.proofs.rows.answers_so_far.Goals as goal
use Rattle.std.proofs.Common.{◌≡◌, false, ℕ, List, [], codes, refl, sym, subst, arith, lit≤, inl, inr}
use Rattle.dsa_serve.specs.declared.ending.Inside.TheVariants.{Brackets}
use Rattle.dsa_serve.specs.{Input.{IsFront, IsUnended}, Dialogue.{IsDialogue, AnswersSoFar}}
use Rattle.dsa_serve.specs.{Worked.{first_line}}
use Rattle.dsa_serve.proofs.Ends.{line_no_end, one_document}
use Rattle.dsa_serve.proofs.RowDialogues.{alone, no_dialogue, bare_dialogue}

pub returns-clause-longest : goal.returns-clause-longest
returns-clause-longest c input line long =
    inl (line_no_end (Brackets 0) input line, omega (arith, long), refl)

pub returns-clause-unended : goal.returns-clause-unended
returns-clause-unended c = inl (refl, lit≤ tt, refl)

-- the first line of what has a line feed
first_is : (first behind : List ℕ) → IsFront false (codes "1\n") first behind → IsUnended first
    → codes "1" ≡ first
first_is first behind front unended =
    (one_document (codes "1\n") (codes "1") first [] behind refl unended (refl, refl) front).0

no_answer : (output : List ℕ) → ¬ AnswersSoFar false (codes "1\n") output
no_answer output (inl h) = let unended = h.0 in absurd cc
no_answer output (inr h) =
    let first = first_is h.first h.behind h.split.front h.split.unended in
    no_dialogue h.lines h.last output
    (subst (λ f. IsDialogue false f h.lines h.last output) (sym first) h.dialogue)

pub returns-clause-whole_line : goal.returns-clause-whole_line
returns-clause-whole_line c output is = no_answer output is

pub returns-clause-only_line : goal.returns-clause-only_line
returns-clause-only_line c = (refl, alone (first_line []) (codes "ready 0\n") refl (lit≤ tt) bare_dialogue)

pub returns-clause-more_to_read : goal.returns-clause-more_to_read
returns-clause-more_to_read c input output is =
    let left = is.0 in
    absurd cc
