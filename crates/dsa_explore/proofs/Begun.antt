-- The world in which the parties begin, and why there is none.
use Rattle.std.proofs.Common.{◌≡◌, ℕ, ◌+◌, ◌^◌, ◌∷◌, Bool, true, false, not, None, refl, nat_lt, ◌<◌, min, ⊎_elim, inl, inr, arith}
use Rattle.std.proofs.Common.{◌≤◌, List, [], ◌++◌, Some, length, length-append, sym, ap, ◌∙◌, subst}
use Rattle.std.proofs.lemmas.{Bool.{cases_lt, ltb-true, ltb-false}, List.{length-map}}
use Rattle.dsa_base.specs.Rows.{first_row}
use Rattle.dsa_regs.specs.{declared.Caps.{Caps}, Caps.{check_caps}}
use Rattle.dsa_device.specs.{Made.{opening_table}, declared.faults.MakeFault.TheVariants.{BadCaps, BadCapacity}}
use Rattle.dsa_book.specs.declared.event.{Event.{Event}, Step.{Step}}
use Rattle.dsa_book.specs.Machine.{is_run, is_run_after, replay, stored_steps}
use Rattle.dsa_keys.specs.{Labels.{Labels}, Parties.{IsGoodWorld}}
use Rattle.dsa_device.specs.{Running.{Running, running_at_first}, Runs.{IsRunOf}}
use Rattle.dsa_parties.specs.declared.script.Script.{Script}
use Rattle.dsa_parties.specs.{Standing.{Standing, standing_first}, Good.{is_good}}
use Rattle.dsa_parties.proofs.{Lawful.{first-good}, Described.{first-described}}
use Rattle.dsa_book.specs.State.{State}
use Rattle.dsa_keys.specs.Parties.{World}
use Rattle.dsa_explore.specs.{Rows.{labels_of}, Search.{IsFine}}
use Rattle.dsa_explore.specs.Walked.{CannotBegin, HasNoDevice, IsFirst, IsLedTo, space_of}
use Rattle.dsa_explore.proofs.SetUps.{fewer-stored, same-from-opening}

-- a device that was made has such capabilities, and no more room than there may be
pub has-device : (caps : Caps) (capacity : ℕ) → first_row (opening_table caps capacity) ≡ None
    → HasNoDevice caps capacity → ⊥
has-device caps capacity none = go (check_caps caps) (nat_lt (2 ^ 20) capacity) refl refl none
  where
    go : (b c : Bool) → check_caps caps ≡ b → nat_lt (2 ^ 20) capacity ≡ c
        → first_row ((not b, BadCaps) ∷ (c, BadCapacity) ∷ []) ≡ None → HasNoDevice caps capacity → ⊥
    go false c e l none h = absurd cc
    go true true e l none h = absurd cc
    go true false e l none (inl bad) = let clash : true ≡ false = sym e ∙ bad in absurd cc
    go true false e l none (inr many) =
        let low = ltb-false (2 ^ 20) capacity l in
        omega (arith, many, low)

-- so there is room for a set-up that led to a first world
pub has-room : (caps : Caps) (script : Script) (events : List Event) (w : World Standing) (steps capacity : ℕ)
    → IsFirst caps script events w → capacity ≡ min (2 ^ 20) (length events + steps + 16)
    → (length events ≤ capacity) × (capacity ≤ 2 ^ 20)
has-room caps script events w steps capacity first-is is = ⊎_elim
    (λ (over : 2 ^ 20 < length events). absurd (first-is.device (inr over)))
    (λ few. (omega (arith, is, few), omega (arith, is)))
    (cases_lt (2 ^ 20) (length events))

module _ (caps : Caps) (script : Script) (events : List Event) (capacity : ℕ) (before after : Running)
    (new : List Step) (first : before ≡ running_at_first caps capacity)
    (ran : before.anew ≡ false → IsRunOf before events [] new after) where
  run-of : IsRunOf before events [] new after
  run-of = ran (ap (λ (d : Running). d.anew) first)

  replayed : replay caps (stored_steps run-of.steps) ≡ Some after.state
  replayed = sym (ap (replay caps)
      (run-of.history ∙ ap (λ (d : Running). d.history ++ stored_steps run-of.steps) first))
      ∙ sym (ap (λ (d : Running). replay d.caps after.history) first) ∙ run-of.replayed

  led : capacity ≡ length events → IsLedTo caps events after.state
  led room = record {
    steps = run-of.steps;
    events_are = run-of.events_are;
    allowed = subst (λ (n : ℕ). is_run caps n run-of.steps ≡ true) room
        (sym (ap (λ (d : Running). is_run_after d.caps d.capacity d.history run-of.steps) first) ∙ run-of.allowed);
    led = replayed;
  }

  pub lets-in : capacity ≡ length events → nat_lt 0 after.state.work.setup.next_name ≡ true → CannotBegin caps events
  lets-in room named = inr (record {
    state = after.state;
    led = led room;
    named = ltb-true 0 after.state.work.setup.next_name named;
  })

  -- no more steps are stored than there are events
  pub room-left : (length after.history ≤ length events) × (after.capacity ≡ capacity)
  room-left = (
    few,
    run-of.same_capacity ∙ ap (λ (d : Running). d.capacity) first,
  )
    where
      few : length after.history ≤ length events
      few = omega (
        arith,
        ap length run-of.history,
        length-append before.history (stored_steps run-of.steps),
        ap (λ (d : Running). length d.history) first,
        fewer-stored run-of.steps,
        ap length run-of.events_are,
        length-map run-of.steps (λ (step : Step). step.event),
      )

  -- a set-up that lets no entry in leads to the first world again
  pub same-state : length events ≤ capacity → (w : World Standing) → IsFirst caps script events w
      → w.state ≡ after.state
  same-state room w first-is = same-from-opening caps (length events) capacity first-is.led.steps run-of.steps w.state
      after.state (first-is.led.events_are ∙ sym run-of.events_are) first-is.led.allowed
      (sym (ap (λ (d : Running). is_run_after d.caps d.capacity d.history run-of.steps) first) ∙ run-of.allowed)
      (omega (
        arith,
        ap length first-is.led.events_are,
        length-map first-is.led.steps (λ (step : Step). step.event),
      ))
      (omega (arith, room, ap length run-of.events_are, length-map run-of.steps (λ (step : Step). step.event)))
      first-is.led.led replayed first-is.no_names

  pub again : length events ≤ capacity → (stand : Standing) (labels : Labels) → stand ≡ standing_first script
      → labels ≡ labels_of [] → (w : World Standing) → IsFirst caps script events w
      → record { places = stand; labels = labels; state = after.state } ≡ w
  again room stand labels stands unlabelled w first-is =
      let places = stands ∙ sym first-is.places in
      let named = unlabelled ∙ sym first-is.no_labels in
      let state = sym (same-state room w first-is) in
      λ i. record { places = places i; labels = named i; state = state i }

  pub lets-none-in : length events ≤ capacity → nat_lt 0 after.state.work.setup.next_name ≡ true
      → (w : World Standing) → IsFirst caps script events w → ⊥
  lets-none-in room named w first-is =
      let some = ltb-true 0 after.state.work.setup.next_name named in
      omega (
        arith,
        some,
        first-is.no_names,
        ap (λ (s : State). s.work.setup.next_name) (same-state room w first-is),
      )

  module _ (stand : Standing) (labels : Labels) (none : nat_lt 0 after.state.work.setup.next_name ≡ false)
      (stands : stand ≡ standing_first script) where
    no-names : after.state.work.setup.next_name ≡ 0
    no-names = let none' = ltb-false 0 after.state.work.setup.next_name none in omega (arith, none')

    pub begins : labels ≡ labels_of [] → ¬ (HasNoDevice caps capacity) → capacity ≡ length events
        → IsFirst caps script events (record { places = stand; labels = labels; state = after.state })
    begins unlabelled device room = record {
      device = subst (λ (n : ℕ). ¬ (HasNoDevice caps n)) room device;
      led = led room;
      places = stands;
      no_names = no-names;
      no_labels = unlabelled;
    }

    pub begins-fine : IsFine (space_of caps script) (record { places = stand; labels = labels; state = after.state })
    begins-fine = record {
      good = subst (λ (s : Standing).
          IsGoodWorld caps (is_good script) (record { places = s; labels = labels; state = after.state })) (sym stands)
          (first-good caps script labels (stored_steps run-of.steps) after.state replayed no-names);
      described = first-described caps script labels (stored_steps run-of.steps) after.state replayed no-names;
    }
