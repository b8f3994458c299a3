-- The faults of a document that a dialogue begins with.
use Rattle.std.proofs.Common.{◌≡◌, ◌⊎◌, ◌∙◌, Bool, true, false, inl, inr, ℕ, List, Option, Some, None}
use Rattle.std.proofs.Common.{option_map, sym, ap, refl, take}
use Rattle.std.proofs.lemmas.{Option.{same_Some}, List.{take-map}}
use Rattle.std.specs.Prelude.{slice_get}
use Rattle.serde_json.specs.{Data.{Data}, Read.{read}}
use Rattle.dsa_regs.specs.declared.Caps.{Caps}
use Rattle.dsa_scenario.specs.declared.actions.Action.{Action}
use Rattle.dsa_scenario.specs.declared.faults.ScenarioFault.{ScenarioFault, TheVariants.{OutOfMemory, BadStep}}
use Rattle.dsa_scenario.specs.declared.faults.ScenarioFault.TheVariants.{NotJson, BadDocument, BadCaps}
use Rattle.dsa_scenario.specs.declared.faults.ScenarioFault.TheVariants.{BadCapacity}
use Rattle.dsa_scenario.specs.{Actions.{action_of}, Document.{head_of, HasHead, IsFaultOfHead}}
use Rattle.dsa_scenario.proofs.Heads.{Head, same_head}
use Rattle.dsa_expand.specs.Expansion.{HasNoStrictForm}
use Rattle.dsa_conform.specs.{Seen.{Seen, observation_of}, Run.{AreRead}}
use Rattle.dsa_conform.proofs.Faults.{bad_keys}
use Rattle.dsa_serve.specs.Dialogue.{IsFaultOfFirst, IsFaultOfStrict}

-- what is no step object says nothing of one
unread_if : (o : Option Data) → option_map action_of o ≡ Some None → option_map observation_of o ≡ Some None
unread_if None h = absurd cc
unread_if (Some d) h = rw (same_Some (action_of d) None h) refl

-- where the objects are read, the fault of the keys is that of the line
pub first_fault : (bytes : List ℕ) (caps : Caps) (capacity : ℕ) (steps : List Data) (observed : List (Action × Seen))
    (e : ScenarioFault) → HasHead bytes caps capacity steps → AreRead steps observed
    → IsFaultOfHead caps capacity steps e → (e ≡ OutOfMemory) ⊎ IsFaultOfStrict bytes e
first_fault bytes caps capacity steps observed (BadStep i) head read fault = inr (record {
  caps = caps;
  capacity = capacity;
  steps = steps;
  head = head;
  bad = record {
    done = take i observed;
    before = sym (take-map observation_of i steps) ∙ ap (take i) read ∙ take-map
        (λ (o : Action × Seen). Some o) i observed;
    here = unread_if (slice_get steps i) fault.here;
  };
})
first_fault bytes caps capacity steps observed e head read fault =
    bad_keys bytes caps capacity steps observed e head read fault

-- what is read as something without a head has none
pub headless : (text : List ℕ) (caps : Caps) (capacity : ℕ) (steps : List Data) (d : Data)
    → read text ≡ Some d → head_of d ≡ None → ¬ HasHead text caps capacity steps
headless text caps capacity steps d reads none is =
    let head : ◌≡◌ {A = Option Head} None (Some (caps, capacity, is.items)) =
    sym none ∙ same_head text d caps capacity steps reads is in
    absurd cc

-- these are faults of no document
abbrev pub is_none_of_documents : ScenarioFault → Bool
is_none_of_documents NotJson = false
is_none_of_documents BadDocument = false
is_none_of_documents (BadStep i) = false
is_none_of_documents BadCaps = false
is_none_of_documents BadCapacity = false
is_none_of_documents _ = true

none_of_strict : (bytes : List ℕ) (e : ScenarioFault) → is_none_of_documents e ≡ true → ¬ IsFaultOfStrict bytes e
none_of_strict bytes NotJson is h = absurd cc
none_of_strict bytes BadDocument is h = absurd cc
none_of_strict bytes (BadStep i) is h = absurd cc
none_of_strict bytes BadCaps is h = absurd cc
none_of_strict bytes BadCapacity is h = absurd cc
none_of_strict bytes _ is h = h.0

none_of_forms : (bytes : List ℕ) (e : ScenarioFault) → is_none_of_documents e ≡ true → ¬ HasNoStrictForm bytes e
none_of_forms bytes NotJson is h = absurd cc
none_of_forms bytes BadDocument is h = absurd cc
none_of_forms bytes (BadStep i) is h = absurd cc
none_of_forms bytes BadCaps is h = absurd cc
none_of_forms bytes BadCapacity is h = absurd cc
none_of_forms bytes _ is h = h.bad.1

pub none_of_first : (is_friendly : Bool) (first : List ℕ) (e : ScenarioFault) → is_none_of_documents e ≡ true
    → ¬ IsFaultOfFirst is_friendly first e
none_of_first false first e is h = none_of_strict first e is h
none_of_first true first e is (inl h) = none_of_forms first e is h
none_of_first true first e is (inr h) = none_of_strict h.0 e is h.2
