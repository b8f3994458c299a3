use Rattle.dsa_scenario.proofs.rows.texts_begun.Goals as goal
use Rattle.std.proofs.Common.{◌≡◌, ◌++◌, ◌<◌, ℕ, List, [], ◌∷◌, ap, arith, codes, inr, length, length-append}
use Rattle.std.proofs.Common.{lit≤, refl, take}
use Rattle.std.proofs.lemmas.List.{length-take}
use Rattle.std.specs.Fmt.{digits}
use Rattle.serde_json.proofs.OnLiterals.{serde_json_on_literals}
use Rattle.dsa_book.specs.declared.event.Event.TheVariants as event
use Rattle.dsa_scenario.specs.declared.actions.Action.TheVariants.{Ask}
use Rattle.dsa_scenario.specs.{Steps.{line_of_step, IsTextOfRun}}
use Rattle.dsa_scenario.specs.Streams.{AreFirstLines, AreLinesOfStart}
use Rattle.dsa_scenario.specs.Worked.{poll_text, polled, smallest_caps}
use Rattle.dsa_scenario.proofs.Heads.{document_by}

pub returns-clause-part : goal.returns-clause-part
returns-clause-part c = (1, lit≤ tt, refl)

-- all of it is no part
all : (text : List ℕ) (count : ℕ) → text ≡ codes "ab" → count < length text → codes "xab" ≡ codes "x" ++ take count text
    → ⊥
all text count is short holds = omega (
  arith,
  ap length is,
  ap length holds,
  short,
  length-append (codes "x") (take count text),
  length-take count text,
)

pub returns-clause-all : goal.returns-clause-all
returns-clause-all c is = all (codes "ab") is.0 refl is.1 is.2

pub returns-clause-added : goal.returns-clause-added
returns-clause-added c = (codes "ab", refl, refl)

pub returns-clause-not_added : goal.returns-clause-not_added
returns-clause-not_added c is = omega (arith, ap length is.1, ap length is.2, length-append (codes "x") is.0)

pub returns-clause-cut : goal.returns-clause-cut
returns-clause-cut c = (codes "ab", refl, (1, lit≤ tt, refl))

pub returns-clause-not_cut : goal.returns-clause-not_cut
returns-clause-not_cut c is = all is.0 is.2.0 is.1 is.2.1 is.2.2

-- the lines of a poll, or none of them yet
lines : (text : List ℕ) → IsTextOfRun (AreFirstLines line_of_step) smallest_caps 9 (Ask event.Poll ∷ []) text
    → AreLinesOfStart line_of_step poll_text text
unfolding serde_json_on_literals
lines text of_run = record {
  caps = smallest_caps;
  capacity = 9;
  actions = Ask event.Poll ∷ [];
  count = 1;
  document = document_by poll_text _ smallest_caps _ _ (Ask event.Poll ∷ []) (poll_text, (refl, refl)) refl refl refl;
  opening = record { good = refl; small = lit≤ tt };
  of_run = of_run;
}

one : IsTextOfRun (AreFirstLines line_of_step) smallest_caps 9 (Ask event.Poll ∷ []) (codes "nothing\n")
unfolding digits
one =
    record { records = polled; last = _; of_actions = (refl, tt); run = refl; replayed = refl; rendered = (1, refl) }

none : IsTextOfRun (AreFirstLines line_of_step) smallest_caps 9 (Ask event.Poll ∷ []) []
none = record { records = polled; last = _; of_actions = (refl, tt); run = refl; replayed = refl; rendered = (0, refl) }

pub returns-clause-lines : goal.returns-clause-lines
returns-clause-lines c = lines (codes "nothing\n") one

pub returns-clause-no_line_yet : goal.returns-clause-no_line_yet
returns-clause-no_line_yet c = lines [] none

pub returns-clause-begun : goal.returns-clause-begun
returns-clause-begun c = (refl, inr (lines [] none))

pub returns-clause-fault_told : goal.returns-clause-fault_told
returns-clause-fault_told c is = let none = is.0 in absurd cc
