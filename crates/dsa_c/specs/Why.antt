-- Why the device behind a handle would answer an event as it does, and what its command waits for, for C.
use Rattle.std.specs.Prelude.{◌≡◌, ◌⊎◌, ℕ, ◌==◌, ◌&&◌, Bool, false, not, cond, List, [], length, drop, flat_map}
use Rattle.std.specs.{Prelude.{Option, None, Some, Ok, option_and_then}, List.{list_any}}
use Rattle.dsa_base.specs.Numbers.{numbers_below}
use Rattle.dsa_book.specs.declared.event.Event.{Event, TheVariants.{Dispatch}}
use Rattle.dsa_book.specs.{declared.note.ActiveCommand.{ActiveCommand}, State.{State}, Work.{qualifies}}
use Rattle.dsa_device.specs.Running.{Running}
use Rattle.dsa_explain.specs.Held.{awaited_lists}
use Rattle.dsa_explain_lines.specs.Parts.{part_of}
use Rattle.dsa_c.specs.{Buffers.{with_text_for_c}, Calls.{asked_for}, Place.{HeldDevice}}
use Rattle.dsa_c.specs.declared.numbers.TheConstants.{NONE, NO_MEMORY}

-- ---- the reason of an answer

-- a dispatch that takes an entry
abbrev pub is_taking : Running → Event → Bool
is_taking d (Dispatch engine) = not (length d.history == d.capacity)
    && list_any (qualifies d.state.work engine) (numbers_below d.state.work.setup.caps.queues)
is_taking d event = false

-- what a line of `explain` would tell behind the answer to the event
abbrev pub reason_part : Running → Event → List ℕ
reason_part d event = cond (is_taking d event) [] (part_of d (Ok event))

-- the same without its mark, ": "
abbrev pub reason_words : Running → Event → List ℕ
reason_words d event = drop 2 (reason_part d event)

-- the reason of the event, where there is an event, and a device behind the handle
abbrev pub reason_asked : HeldDevice → Option Event → Option (List ℕ)
reason_asked held said = option_and_then (λ event. asked_for (λ d. Some (reason_words d event)) held) said

-- how a text is told: by its length, with what fits of it in these places, or, where memory was refused, by that
-- number and an empty text; where there is none, by NONE and an empty text
abbrev pub IsToldIn : Option (List ℕ) → ℕ → List ℕ → List ℕ → Type 0
IsToldIn None number before after = (number ≡ NONE) × (after ≡ with_text_for_c before [])
IsToldIn (Some text) number before after =
    ((number ≡ length text) × (after ≡ with_text_for_c before text))
    ⊎ ((number ≡ NO_MEMORY) × (after ≡ with_text_for_c before []))

-- ---- what a command waits for

-- the names of the entries that a command waits for which is noted so, list by list and the front first
abbrev pub names_of_wait : State → ActiveCommand → List ℕ
names_of_wait s noted = flat_map (λ named. named.1) (awaited_lists noted s)

-- those that the active command waits for, where one is active
abbrev pub names_for_c : Option ActiveCommand → State → List ℕ
names_for_c None s = []
names_for_c (Some noted) s = names_of_wait s noted

-- those of the device behind a handle
abbrev pub names_awaited : HeldDevice → List ℕ
names_awaited None = []
names_awaited (Some machine) = names_for_c machine.device.state.active machine.device.state
