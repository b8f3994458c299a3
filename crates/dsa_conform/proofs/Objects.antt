-- The step objects of a document, one after the other.
use Rattle.std.proofs.Common.{◌≡◌, ◌<◌, ℕ, ◌+◌, List, [], ◌∷◌, ◌++◌}
use Rattle.std.proofs.Common.{Option, Some, None, refl, sym, ap, ◌∙◌, map, length}
use Rattle.std.proofs.Common.{take, get_or, option_map}
use Rattle.std.proofs.lemmas.List.{take_more, length-map, map-append}
use Rattle.std.proofs.lemmas.Option.{slice_get-map, slice_get_read, slice_get_within, get_or_from_slice_get, same_Some}
use Rattle.std.proofs.Math.ListN.{get_or-map}
use Rattle.std.specs.Prelude.{IsUtf8, slice_get, is_none, false, option_and_then}
use Rattle.serde_json.specs.{View.{view}, Data.{Data, Items}, Read.{read}, declared.value.Value.{Value}}
use Rattle.dsa_regs.specs.declared.Caps.{Caps}
use Rattle.dsa_scenario.specs.Document.{head_of, list_of_items}
use Rattle.dsa_scenario.proofs.Heads.{head_by}
use Rattle.dsa_scenario.specs.declared.actions.Action.{Action}
use Rattle.dsa_conform.specs.{Seen.{Seen, observation_of}, Run.{AreRead, IsUnread, IsUnreadAt}, Sights.{step_at}}

-- the item is that of the list, as JSON
item_at : (vs : List Value) (i : ℕ) (v : Value) → i < length vs → v ≡ get_or vs i v
    → slice_get (map view vs) i ≡ Some (view v)
item_at vs i v inside is = rw (slice_get-map view vs i, slice_get_read vs (length vs) i v refl inside is) refl

-- one step object more that is read
pub read_more : (vs : List Value) (i : ℕ) (v : Value) (here : Action × Seen) (done : List (Action × Seen))
    → i < length vs
    → v ≡ get_or vs i v → observation_of (view v) ≡ Some here → AreRead (take i (map view vs)) done
    → AreRead (take (i + 1) (map view vs)) (done ++ here ∷ [])
read_more vs i v here done inside is reads h =
    let inside' : i < length (map view vs) = rw (length-map vs view) inside in
    let item : get_or (map view vs) i (view v) ≡ view v = get_or-map view vs i v ∙ ap view (sym is) in
    rw (take_more (map view vs) i (view v) inside', map-append, map-append, h, item, reads) refl

-- there are as many observations as step objects
pub as_many_read : (steps : List Data) (observed : List (Action × Seen)) → AreRead steps observed
    → length observed ≡ length steps
as_many_read steps observed h =
    sym (length-map observed (λ (o : Action × Seen). Some o)) ∙ ap length (sym h) ∙ length-map steps observation_of

pub count_read : (vs : List Value) (observed : List (Action × Seen)) → AreRead (map view vs) observed
    → length observed ≡ length vs
count_read vs observed h = as_many_read (map view vs) observed h ∙ length-map vs view

-- what is read of an item is what is read at its place
pub at_item : (vs : List Value) (i : ℕ) (v : Value) (o : Option (Action × Seen)) → i < length vs → v ≡ get_or vs i v
    → o ≡ observation_of (view v) → o ≡ step_at (map view vs) i
at_item vs i v o inside is reads =
    reads ∙ ap (option_and_then observation_of) (sym (item_at vs i v inside is))

-- what is read at a place
pub record IsReadAt (observed : List (Action × Seen)) (i : ℕ) (here : Action × Seen) : Type 0 where
  pub at : slice_get observed i ≡ Some here
  pub more : take (i + 1) observed ≡ take i observed ++ here ∷ []

pub read_at : (steps : List Data) (observed : List (Action × Seen)) (i : ℕ) (here : Action × Seen)
    → AreRead steps observed → Some here ≡ step_at steps i → IsReadAt observed i here
read_at steps observed i here h reads =
    let at : slice_get observed i ≡ Some here = found (slice_get steps i) (slice_get observed i) (sym reads) same in
    record {
      at = at;
      more = take_more observed i here (slice_get_within observed i here at)
          ∙ ap (λ o. take i observed ++ o ∷ []) (get_or_from_slice_get observed i here here at);
    }
  where
    same : option_map observation_of (slice_get steps i)
        ≡ option_map (λ (o : Action × Seen). Some o) (slice_get observed i)
    same = sym (slice_get-map observation_of steps i) ∙ ap (λ xs. slice_get xs i) h
        ∙ slice_get-map (λ (o : Action × Seen). Some o) observed i

    found : (d : Option Data) (o : Option (Action × Seen)) → option_and_then observation_of d ≡ Some here
        → option_map observation_of d ≡ option_map (λ (o : Action × Seen). Some o) o → o ≡ Some here
    found None o is same = absurd cc
    found (Some d) None is same = absurd cc
    found (Some d) (Some o) is same = sym (same_Some (observation_of d) (Some o) same) ∙ is

-- a document whose object i is not read, by what its text reads as
pub unread : (text : List ℕ) (d : Data) (caps : Caps) (capacity : ℕ) (items : Items) (i : ℕ) → IsUtf8 text
    → read text ≡ Some d → head_of d ≡ Some (caps, capacity, items) → IsUnreadAt (list_of_items items) i
    → IsUnread text i
unread text d caps capacity items i utf8 value head bad =
    record { caps = _; capacity = _; steps = _; head = head_by text d caps capacity items utf8 value head; bad = bad }

-- a list that is read has nothing in it that is not
pub not_first : {X : Type 0} (rest : List (Option X)) (done : List X) → None ∷ rest ≡ map Some done → ⊥
not_first rest [] e = absurd cc
not_first rest (x ∷ xs) e = absurd cc

pub not_second : {X : Type 0} (first : Option X) (rest : List (Option X)) (done : List X)
    → first ∷ None ∷ rest ≡ map Some done → ⊥
not_second first rest [] e = absurd cc
not_second first rest (x ∷ []) e = absurd cc
not_second first rest (x ∷ y ∷ ys) e = absurd cc

-- and one of one item has that item
pub one_read : {X : Type 0} (x : X) (done : List X) → Some x ∷ [] ≡ map Some done → done ≡ x ∷ []
one_read x [] e = absurd cc
one_read x (y ∷ []) e = cc
one_read x (y ∷ z ∷ zs) e = absurd cc

-- one item more that was read
pub read_next : {B : Type 0} (f : B → Action × Seen) (vs : List Value) (i : ℕ) (v : Value) (o : Option B)
    → i < length vs
    → v ≡ get_or vs i v → option_map f o ≡ observation_of (view v) → is_none o ≡ false
    → (done : List (Action × Seen)) × AreRead (take i (map view vs)) done
    → (done : List (Action × Seen)) × AreRead (take (i + 1) (map view vs)) done
read_next f vs i v None inside is reads some h = absurd cc
read_next f vs i v (Some b) inside is reads some h =
    (h.0 ++ f b ∷ [], read_more vs i v (f b) h.0 inside is (sym reads) h.1)
