-- The parts of a document, together.
use Rattle.std.proofs.Common.{◌≡◌, ◌⊎◌, inl, inr, ℕ, List, [], ◌∷◌, Some, map, sym, ap, refl}
use Rattle.serde_json.specs.{Data.{Data}, View.{view, items_of, items_view}, declared.value.Value.{Value}}
use Rattle.dsa_regs.specs.declared.Caps.{Caps}
use Rattle.dsa_scenario.specs.declared.faults.ScenarioFault.{ScenarioFault, TheVariants.{BadStep, OutOfMemory}}
use Rattle.dsa_scenario.specs.declared.faults.ScenarioFault.TheVariants.{BadCaps, BadCapacity}
use Rattle.dsa_scenario.specs.declared.actions.Action.{Action}
use Rattle.dsa_scenario.specs.Document.{list_of_items, head_of, IsJson, HasHead, IsFaultOfHead, IsFirstBad, IsFaultOf}
use Rattle.dsa_scenario.specs.Document.{IsDocument, IsOpeningFault}

-- the items of a list are the list
list_of-items_of : (ds : List Data) → list_of_items (items_of ds) ≡ ds
list_of-items_of [] = refl
list_of-items_of (d ∷ ds) = ap (λ l. d ∷ l) (list_of-items_of ds)

-- the head of a value, by its text
pub has_head : (bytes : List ℕ) (v : Value) (caps : Caps) (capacity : ℕ) (steps : List Value) → IsJson bytes (view v)
    → Some (caps, capacity, items_view steps) ≡ head_of (view v) → HasHead bytes caps capacity (map view steps)
has_head bytes v caps capacity steps h e = record {
  document = view v;
  items = items_view steps;
  json = h;
  head = sym e;
  listed = list_of-items_of (map view steps);
}

-- the fault of its keys is the document's
pub faulty_head : (bytes : List ℕ) (caps : Caps) (capacity : ℕ) (steps : List Data) (e : ScenarioFault)
    → HasHead bytes caps capacity steps → (e ≡ OutOfMemory) ⊎ IsFaultOfHead caps capacity steps e
    → (e ≡ OutOfMemory) ⊎ IsFaultOf bytes e
faulty_head bytes caps capacity steps e head (inl h) = inl h
faulty_head bytes caps capacity steps (BadStep i) head (inr h) =
    inr (record { caps = caps; capacity = capacity; steps = steps; head = head; bad = h })
faulty_head bytes caps capacity steps BadCaps head (inr h) =
    inr (record { caps = caps; capacity = capacity; steps = steps; head = head; bad = h })
faulty_head bytes caps capacity steps BadCapacity head (inr h) =
    inr (record { caps = caps; capacity = capacity; steps = steps; head = head; bad = h })
faulty_head bytes caps capacity steps _ head (inr h) = absurd h.1

-- a bad step object is a fault of the keys
pub first_bad : (bytes : List ℕ) (caps : Caps) (capacity : ℕ) (steps : List Data) (e : ScenarioFault)
    → HasHead bytes caps capacity steps → (e ≡ OutOfMemory) ⊎ IsFirstBad steps e
    → (e ≡ OutOfMemory) ⊎ IsFaultOf bytes e
first_bad bytes caps capacity steps e head (inl h) = inl h
first_bad bytes caps capacity steps (BadStep i) head (inr h) = faulty_head bytes caps capacity steps _ head (inr h)
first_bad bytes caps capacity steps _ head (inr h) = absurd h

-- a fault of the device comes after those of the step objects
pub cannot_open : (bytes : List ℕ) (caps : Caps) (capacity : ℕ) (actions : List Action) (e : ScenarioFault)
    → IsDocument bytes caps capacity actions → (e ≡ OutOfMemory) ⊎ IsOpeningFault caps capacity e
    → (e ≡ OutOfMemory) ⊎ IsFaultOf bytes e
cannot_open bytes caps capacity actions e h (inl memory) = inl memory
cannot_open bytes caps capacity actions BadCaps h (inr fault) =
    faulty_head bytes caps capacity h.steps BadCaps h.head (inr ((actions, h.asked), fault))
cannot_open bytes caps capacity actions BadCapacity h (inr fault) =
    faulty_head bytes caps capacity h.steps BadCapacity h.head (inr ((actions, h.asked), fault))
cannot_open bytes caps capacity actions _ h (inr fault) = absurd fault
