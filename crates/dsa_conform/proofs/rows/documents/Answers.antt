use Rattle.dsa_conform.proofs.rows.documents.Goals as goal
use Rattle.dsa_book.specs.declared.event.Event.TheVariants as event
use Rattle.std.proofs.Common.{◌≡◌, ◌∙◌, ◌++◌, ℕ, true, List, [], ◌∷◌, Option, Some, None, length, map, take, codes}
use Rattle.std.proofs.Common.{refl, ap, ◌≤◌, ◌^◌, arith, lit≤}
use Rattle.std.specs.{Fmt.{digits}}
use Rattle.std.proofs.lemmas.Bool.{false≢true}
use Rattle.serde_json.{specs.Data.{Data}, proofs.OnLiterals.{serde_json_on_literals}}
use Rattle.dsa_regs.specs.Caps.{check_caps}
use Rattle.dsa_scenario.specs.declared.faults.ScenarioFault.{ScenarioFault, TheVariants.{Differs}}
use Rattle.dsa_scenario.specs.declared.{actions.Action.{Action, TheVariants.{Ask}}, run.Record.{Record}}
use Rattle.dsa_scenario.specs.{Document.{HasHead}}
use Rattle.dsa_scenario.specs.Worked.{smallest_caps, smallest_caps_text, no_caps_text, document_text}
use Rattle.dsa_conform.specs.Seen.{Seen, observation_of}
use Rattle.dsa_conform.specs.Lines.{conforms_text, seen_count}
use Rattle.dsa_conform.specs.Run.{AreRead, IsShownRun, IsConformance, IsRunTold, IsVerdict}
use Rattle.dsa_conform.specs.Worked.{answered, flagged, document_of, poll_with}
use Rattle.dsa_scenario.proofs.Heads.{head_by, same_caps, same_capacity, same_steps}
use Rattle.dsa_conform.proofs.{RowRuns.{nothing, poll_differs}, Objects.{not_first, not_second, unread}}

-- a document on the smallest device, and what is told of its steps
judged : (text : List ℕ) (room : ℕ) (steps : List Data) (fault : Option ScenarioFault) (told : List ℕ)
    → HasHead text smallest_caps room steps → room ≤ 2 ^ 20 → IsVerdict smallest_caps room steps fault told
    → IsRunTold IsVerdict text fault told
judged text room steps fault told head small verdict = record {
  caps = smallest_caps;
  capacity = room;
  steps = steps;
  head = head;
  opening = record { good = refl; small = small };
  verdict = verdict;
}

-- it conforms, by a run that shows what was seen
conforming : (text : List ℕ) (room : ℕ) (steps : List Data) (observed : List (Action × Seen)) (records : List Record)
    → HasHead text smallest_caps room steps → room ≤ 2 ^ 20 → AreRead steps observed
    → IsShownRun smallest_caps room observed records
    → IsConformance text None (conforms_text (length observed) (seen_count observed))
conforming text room steps observed records head small read run =
    judged text room steps None (conforms_text (length observed) (seen_count observed)) head small
    (record { observed = observed; read = read; records = records; run = run; told = refl })

pub returns-clause-no_steps : goal.returns-clause-no_steps
unfolding serde_json_on_literals digits
returns-clause-no_steps c =
    let text = document_of [] in
    conforming text 9 [] [] [] (head_by text _ _ _ _ (text, (refl, refl)) refl refl) (lit≤ tt) refl
    (record { of_actions = tt; run = refl; shown = tt })

pub returns-clause-greatest : goal.returns-clause-greatest
unfolding serde_json_on_literals digits
returns-clause-greatest c =
    let text = document_text smallest_caps_text (codes "1048576") [] in
    conforming text 1_048_576 [] [] [] (head_by text _ _ _ _ (text, (refl, refl)) refl refl) (lit≤ tt) refl
    (record { of_actions = tt; run = refl; shown = tt })

pub returns-clause-conforms : goal.returns-clause-conforms
unfolding serde_json_on_literals digits
returns-clause-conforms c =
    let text = document_of (poll_with (codes "\"answer\":\"nothing\"")) in
    conforming text 9 _ ((Ask event.Poll, answered (codes "nothing")) ∷ []) (nothing ∷ [])
    (head_by text _ _ _ _ (text, (refl, refl)) refl refl) (lit≤ tt) refl
    (record { of_actions = (refl, tt); run = refl; shown = (refl, tt) })

pub returns-clause-differs : goal.returns-clause-differs
unfolding serde_json_on_literals digits
returns-clause-differs c =
    let text = document_of (poll_with (codes "\"answer\":\"active\"")) in
    judged text 9 _ (Some (Differs 0)) _ (head_by text _ _ _ _ (text, (refl, refl)) refl refl) (lit≤ tt) (record {
      observed = (Ask event.Poll, answered (codes "active")) ∷ [];
      read = refl;
      here = _;
      at = refl;
      differs = poll_differs;
    })

pub returns-clause-unread : goal.returns-clause-unread
unfolding serde_json_on_literals digits
returns-clause-unread c =
    let text = document_of (poll_with (codes "\"zf\":true") ++ codes "," ++ poll_with (codes "\"zf\":1")) in (
      unread text _ _ _ _ 1 (text, (refl, refl)) refl refl
          (record { done = (Ask event.Poll, flagged true) ∷ []; before = refl; here = refl }),
      refl,
    )

pub returns-clause-second : goal.returns-clause-second
unfolding serde_json_on_literals digits
returns-clause-second c is =
    let steps = same_steps (document_of (codes "1,2")) _ _ _ _ refl is.0.head in
    not_first [] is.0.bad.done (ap (λ (l : List Data). map observation_of (take 1 l)) steps ∙ is.0.bad.before)

pub returns-clause-unread_with_a_text : goal.returns-clause-unread_with_a_text
returns-clause-unread_with_a_text c is =
    let text = is.1 in
    absurd cc

pub returns-clause-other_fault : goal.returns-clause-other_fault
returns-clause-other_fault c is = is.verdict

pub returns-clause-unread_behind : goal.returns-clause-unread_behind
unfolding serde_json_on_literals digits
returns-clause-unread_behind c is =
    let text = document_of (poll_with (codes "\"answer\":\"active\"") ++ codes "," ++ poll_with (codes "\"zf\":1")) in
    let steps = same_steps text _ _ _ _ refl is.head in
    not_second _ [] is.verdict.observed (ap (map observation_of) steps ∙ is.verdict.read)

pub returns-clause-no_caps : goal.returns-clause-no_caps
unfolding serde_json_on_literals
returns-clause-no_caps c is = false≢true
    (ap check_caps (same_caps (document_text no_caps_text (codes "9") []) _ _ _ _ refl is.head) ∙ is.opening.good)

pub returns-clause-no_capacity : goal.returns-clause-no_capacity
unfolding serde_json_on_literals
returns-clause-no_capacity c is =
    let text = document_text smallest_caps_text (codes "1048577") [] in
    let capacity : 1_048_577 ≡ is.capacity = same_capacity text _ _ _ _ refl is.head in
    absurd (omega (arith, capacity, is.opening.small))
