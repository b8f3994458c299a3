use Rattle.dsa_conform.proofs.rows.made_as_seen.Goals as goal
use Rattle.dsa_book.specs.declared.event.Event.TheVariants as event
use Rattle.std.specs.Fmt.{digits}
use Rattle.std.proofs.Common.{◌≡◌, ℕ, inl, inr, List, [], ◌∷◌, refl, ap, ◌∙◌, subst, codes, map, length, arith, lit≤}
use Rattle.std.proofs.lemmas.Option.{slice_get_within}
use Rattle.serde_json.{specs.Data.{string}, proofs.OnLiterals.{serde_json_on_literals}}
use Rattle.dsa_scenario.specs.Worked.{no_command}
use Rattle.dsa_scenario.specs.declared.actions.Action.{Action, TheVariants.{Ask, Refuse}}
use Rattle.dsa_scenario.specs.Steps.{AreLinesOfSteps, IsTextOfRun, visits}
use Rattle.dsa_scenario.specs.Worked.{object_of, poll_step, smallest_caps}
use Rattle.dsa_scenario.proofs.Heads.{head_by}
use Rattle.dsa_conform.specs.AsSeen.{seen_before, IsTextAsSeen, ShowAll}
use Rattle.dsa_conform.specs.{Seen.{Seen, AreShown}, Worked.{answered, document_of, poll_with}}
use Rattle.dsa_conform.proofs.{Objects.{not_first, one_read, unread}, RowRuns.{not_answered_so, nothing, poll_differs}}
use Rattle.dsa_conform.proofs.Walks.{entries-visits}

-- a text of a run that shows what was seen of the first steps of these, so many
abbrev OfRun : List ℕ → List (Action × Seen) → ℕ → Type 0
OfRun text observed count =
    IsTextOfRun (λ made last told. ShowAll (seen_before count observed) made × AreLinesOfSteps made last told)
    smallest_caps 9 (map (λ o. o.0) observed) text

-- the run of a poll that is answered with nothing
run_of_poll : (seen : Seen) (count : ℕ)
    → ShowAll (seen_before count ((Ask event.Poll, seen) ∷ [])) (visits smallest_caps 9 [] (nothing ∷ []))
    → OfRun (codes "nothing\n") ((Ask event.Poll, seen) ∷ []) count
unfolding digits
run_of_poll seen count shown = record {
  records = nothing ∷ [];
  last = _;
  of_actions = (refl, tt);
  run = refl;
  replayed = refl;
  rendered = (shown, refl);
}

-- it shows this
polled : IsTextAsSeen AreLinesOfSteps smallest_caps 9
    (object_of ((codes "answer", string (codes "nothing")) ∷ poll_step) ∷ []) (codes "nothing\n")
polled = record {
  observed = (Ask event.Poll, answered (codes "nothing")) ∷ [];
  read = refl;
  count = 1;
  farthest = inl refl;
  of_run = run_of_poll (answered (codes "nothing")) 1 (refl, tt);
}

pub returns-clause-line : goal.returns-clause-line
returns-clause-line c = polled

pub returns-clause-differs : goal.returns-clause-differs
returns-clause-differs c = record {
  observed = (Ask event.Poll, answered (codes "active")) ∷ [];
  read = refl;
  count = 0;
  farthest = inr ((Ask event.Poll, answered (codes "active")), refl, poll_differs.none);
  of_run = run_of_poll (answered (codes "active")) 0 (refl, tt);
}

pub returns-clause-unread : goal.returns-clause-unread
returns-clause-unread c h = not_first [] h.observed h.read

-- a word that is no command, of which was seen what its refusal does not show
abbrev refused_otherwise : List (Action × Seen)
refused_otherwise = (Refuse no_command, answered (codes "nothing")) ∷ []

none_shown : (text : List ℕ) (observed : List (Action × Seen))
    (count : ℕ) → observed ≡ refused_otherwise → count ≡ length observed → OfRun text observed count → ⊥
none_shown text observed count read all h =
    let one : count ≡ 1 = all ∙ ap length read in
    let run : OfRun text refused_otherwise 1 =
    subst (λ n. OfRun text refused_otherwise n) one (subst (λ o. OfRun text o count) read h) in
    not_answered_so run.records run.of_actions
    (subst (λ rs. AreShown (answered (codes "nothing") ∷ []) rs) (entries-visits smallest_caps 9 [] run.records)
    run.rendered.0)

pub returns-clause-not_shown : goal.returns-clause-not_shown
returns-clause-not_shown c text h =
    let read = one_read (Refuse no_command, answered (codes "nothing")) h.observed h.read in
    elim h.farthest [
      | inl all ↦ absurd (none_shown text h.observed h.count read all h.of_run)
      | inr next ↦
          let within = slice_get_within h.observed h.count next.0 next.1 in
          let one : length h.observed ≡ 1 = ap length read in
          omega (arith, within, one)
    ]

pub returns-clause-other_text : goal.returns-clause-other_text
returns-clause-other_text c h = h.of_run.rendered.1

pub returns-clause-other_fault : goal.returns-clause-other_fault
returns-clause-other_fault c h = h

pub returns-clause-document : goal.returns-clause-document
unfolding serde_json_on_literals digits
returns-clause-document c =
    let text = document_of (poll_with (codes "\"answer\":\"nothing\"")) in
    record {
      caps = smallest_caps;
      capacity = 9;
      steps = _;
      head = head_by text _ _ _ _ (text, (refl, refl)) refl refl;
      opening = record { good = refl; small = lit≤ tt };
      verdict = polled;
    }

pub returns-clause-bad_step : goal.returns-clause-bad_step
unfolding serde_json_on_literals digits
returns-clause-bad_step c =
    let text = document_of (poll_with (codes "\"zf\":1")) in (
      unread text _ _ _ _ 0 (text, (refl, refl)) refl refl (record { done = []; before = refl; here = refl }),
      refl,
    )
