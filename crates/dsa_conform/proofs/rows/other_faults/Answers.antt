use Rattle.dsa_conform.proofs.rows.other_faults.Goals as goal
use Rattle.std.proofs.Common.{◌≡◌, ◌++◌, ℕ, zero, suc, [], ◌∷◌, Some, codes, refl, sym}
use Rattle.std.proofs.Common.{subst, true}
use Rattle.serde_json.{specs.Data.{Data}, proofs.OnLiterals.{serde_json_on_literals}}
use Rattle.dsa_book.specs.declared.event.Event.TheVariants.{Poll}
use Rattle.dsa_scenario.specs.declared.actions.Action.{Action, TheVariants.{Ask}}
use Rattle.dsa_scenario.specs.declared.faults.ScenarioFault.TheVariants.{BadCaps}
use Rattle.dsa_scenario.specs.Worked.{no_caps_text, document_text}
use Rattle.dsa_scenario.proofs.Heads.{faulty, same_steps}
use Rattle.dsa_conform.specs.{Seen.{Seen, observation_of}, Run.{IsUnreadAt}}
use Rattle.dsa_conform.specs.Worked.{flagged, document_of, poll_with}
use Rattle.dsa_conform.proofs.Objects.{unread}

-- an object that is read is none that is not
one_is_read : (d : Data) (o : Action × Seen) → observation_of d ≡ Some o → (i : ℕ) → ¬ IsUnreadAt (d ∷ []) i
one_is_read d o reads zero unread_at =
    let none = unread_at.here in
    absurd cc
one_is_read d o reads (suc i) unread_at =
    let none = unread_at.here in
    absurd cc

pub returns-clause-json : goal.returns-clause-json
unfolding serde_json_on_literals
returns-clause-json c = (
  λ utf8. refl,
  λ i none.
      let value = none.head.json.value in
      absurd cc,
)

pub returns-clause-caps : goal.returns-clause-caps
unfolding serde_json_on_literals
returns-clause-caps c =
    let text = document_text no_caps_text (codes "9") (poll_with (codes "\"zf\":true")) in (
      faulty text _ _ _ _ BadCaps (text, (refl, refl)) refl refl ((Ask Poll ∷ [], refl), refl),
      λ i none. one_is_read _ (Ask Poll, flagged true) refl i
          (subst (λ l. IsUnreadAt l i) (sym (same_steps text _ _ _ _ refl none.head)) none.bad),
    )

pub returns-clause-unread_before_caps : goal.returns-clause-unread_before_caps
unfolding serde_json_on_literals
returns-clause-unread_before_caps c is =
    let text = document_text no_caps_text (codes "9") (poll_with (codes "\"zf\":1")) in
    is.1 0 (unread text _ _ _ _ 0 (text, (refl, refl)) refl refl (record { done = []; before = refl; here = refl }))

pub returns-clause-no_step : goal.returns-clause-no_step
unfolding serde_json_on_literals
returns-clause-no_step c is =
    let text = document_of (codes "1") in
    is.1 0 (unread text _ _ _ _ 0 (text, (refl, refl)) refl refl (record { done = []; before = refl; here = refl }))

pub returns-clause-no_step_behind : goal.returns-clause-no_step_behind
unfolding serde_json_on_literals
returns-clause-no_step_behind c is =
    let text = document_of (poll_with (codes "\"zf\":1") ++ codes ",1") in
    is.1 0 (unread text _ _ _ _ 0 (text, (refl, refl)) refl refl (record { done = []; before = refl; here = refl }))

pub returns-clause-no_such_fault : goal.returns-clause-no_such_fault
unfolding serde_json_on_literals
returns-clause-no_such_fault c is =
    let none = is.0 (codes "{}", (refl, refl)) in
    absurd cc
