-- The faults of a document that are told where no object of it is.
use Rattle.std.proofs.Common.{◌≡◌, ◌⊎◌, ◌∙◌, inl, inr, ℕ, List, [], Option, Some, None, sym, ap}
use Rattle.std.proofs.Common.{option_map, subst}
use Rattle.std.proofs.lemmas.Option.{slice_get-map}
use Rattle.std.specs.{Prelude.{slice_get}, Option.{option_map_or}}
use Rattle.serde_json.specs.Data.{Data, Items}
use Rattle.dsa_regs.specs.declared.Caps.{Caps}
use Rattle.dsa_scenario.specs.declared.actions.Action.{Action}
use Rattle.dsa_scenario.specs.declared.faults.ScenarioFault.{ScenarioFault, TheVariants.{OutOfMemory}}
use Rattle.dsa_scenario.specs.Document.{head_of, list_of_items, HasHead, IsFaultOfHead}
use Rattle.dsa_scenario.proofs.Whole.{faulty_head}
use Rattle.dsa_conform.specs.{Seen.{Seen, observation_of}, Run.{AreRead, IsUnreadAt, IsUnread, IsOtherFault}}

-- the keys of a document
abbrev Keys : Type 0
Keys = Caps × ℕ × Items

-- the objects of a document are those that its value has
same_steps : (bytes : List ℕ) (caps other_caps : Caps) (capacity other_capacity : ℕ) (steps others : List Data)
    → HasHead bytes caps capacity steps → HasHead bytes other_caps other_capacity others → others ≡ steps
same_steps bytes caps other_caps capacity other_capacity steps others one other =
    let value = one.json.value in
    let other_value = other.json.value in
    let same : other.document ≡ one.document = cc in
    let keys = sym other.head ∙ ap head_of same ∙ one.head in
    sym other.listed ∙ ap (λ o. option_map_or (λ (keys : Keys). list_of_items keys.2) o []) keys ∙ one.listed

-- what is read is no object that is not
not_both : (o : Option (Action × Seen)) → option_map (λ (o : Action × Seen). Some o) o ≡ Some None → ⊥
not_both None h = absurd cc
not_both (Some o) h = absurd cc

none_of_read : (steps : List Data) (observed : List (Action × Seen)) → AreRead steps observed → (i : ℕ)
    → ¬ IsUnreadAt steps i
none_of_read steps observed read i unread =
    not_both (slice_get observed i)
    (sym (slice_get-map (λ (o : Action × Seen). Some o) observed i) ∙ ap (λ l. slice_get l i) (sym read)
    ∙ slice_get-map observation_of steps i ∙ unread.here)

-- a document of which each object is read has none that is not
pub none_where_read : (bytes : List ℕ) (caps : Caps) (capacity : ℕ) (steps : List Data)
    (observed : List (Action × Seen)) → HasHead bytes caps capacity steps → AreRead steps observed → (i : ℕ)
    → ¬ IsUnread bytes i
none_where_read bytes caps capacity steps observed head read i unread =
    none_of_read steps observed read i
    (subst (λ l. IsUnreadAt l i) (same_steps bytes caps unread.caps capacity unread.capacity steps unread.steps head
    unread.head) unread.bad)

-- where no device can be made for it, that is its fault
pub bad_keys : (bytes : List ℕ) (caps : Caps) (capacity : ℕ) (steps : List Data) (observed : List (Action × Seen))
    (e : ScenarioFault) → HasHead bytes caps capacity steps → AreRead steps observed
    → IsFaultOfHead caps capacity steps e → (e ≡ OutOfMemory) ⊎ IsOtherFault bytes e
bad_keys bytes caps capacity steps observed e head read fault =
    elim (faulty_head bytes caps capacity steps e head (inr fault)) [
      | inl memory ↦ inl memory
      | inr of ↦ inr (of, none_where_read bytes caps capacity steps observed head read)
    ]
