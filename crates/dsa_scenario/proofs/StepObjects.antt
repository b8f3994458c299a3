-- One more step object.
use Rattle.std.proofs.Common.{◌≡◌, ◌<◌, ◌≤◌, ◌+◌, ℕ, List, [], ◌∷◌, ◌++◌, Some, None, map, length, take, get_or, refl}
use Rattle.std.proofs.Common.{sym, ap, ◌∙◌}
use Rattle.std.proofs.lemmas.List.{take_more, take_all, length-map, map-append}
use Rattle.std.proofs.lemmas.Option.{slice_get-map, slice_get_read}
use Rattle.std.proofs.Math.ListN.{get_or-map}
use Rattle.serde_json.specs.{View.{view}, declared.value.Value.{Value}}
use Rattle.dsa_scenario.specs.{declared.actions.Action.{Action}, Actions.{action_of}, Document.{IsBadAt}}

-- an item of a list, as JSON
item_view : (vs : List Value) (i : ℕ) (v : Value) → v ≡ get_or vs i v → get_or (map view vs) i (view v) ≡ view v
item_view vs i v is = get_or-map view vs i v ∙ ap view (sym is)

-- one step object more that is read
pub parsed_more : (vs : List Value) (i : ℕ) (v : Value) (a : Action) (actions : List Action) → i < length vs
    → v ≡ get_or vs i v
    → Some a ≡ action_of (view v) → map action_of (take i (map view vs)) ≡ map Some actions
    → map action_of (take (i + 1) (map view vs)) ≡ map Some (actions ++ a ∷ [])
parsed_more vs i v a actions inside is asks h =
    let inside' : i < length (map view vs) = rw (length-map vs view) inside in
    rw (take_more (map view vs) i (view v) inside', map-append, map-append, h, item_view vs i v is, ← asks) refl

-- the first that is none
pub bad_here : (vs : List Value) (i : ℕ) (v : Value) (actions : List Action) → i < length vs → v ≡ get_or vs i v
    → None ≡ action_of (view v) → map action_of (take i (map view vs)) ≡ map Some actions → IsBadAt (map view vs) i
bad_here vs i v actions inside is asks h = record {
  done = actions;
  before = h;
  here = rw (slice_get-map view vs i, slice_get_read vs (length vs) i v refl inside is, ← asks) refl;
}

-- all step objects are read
pub all_asked : (vs : List Value) (i : ℕ) (actions : List Action) → length vs ≤ i
    → map action_of (take i (map view vs)) ≡ map Some actions → map action_of (map view vs) ≡ map Some actions
all_asked vs i actions past h =
    let all : take i (map view vs) ≡ map view vs = take_all i (map view vs) (rw (length-map vs view) past) in
    rw all at h
