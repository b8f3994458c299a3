-- A search that halts met a bound.
use Rattle.std.proofs.Common.{◌≡◌, ◌⊎◌, ℕ, zero, suc, ◌+◌, ◌<◌, ◌≤◌, ◌^◌, true, false, List, [], ◌∷◌, ◌++◌, Option}
use Rattle.std.proofs.Common.{Bool, Some, None, is_none, is_some, not, IfSome, IfNone, refl, sym, ap}
use Rattle.std.proofs.Common.{◌∙◌, subst, length, length-append, inl, inr, ⊎_elim, arith, Contains}
use Rattle.std.specs.Prelude.{slice_get, slice_index_or}
use Rattle.std.proofs.lemmas.Option.{same_Some}
use Rattle.dsa_base.{specs.Lists.{In}, proofs.Lists.{In-push}}
use Rattle.dsa_seen.specs.Table.{HasOneNumberEach}
use Rattle.dsa_keys.specs.Parties.{Parties, World, HaveEqualKeys}
use Rattle.dsa_parties.specs.declared.places.Move.{Move}
use Rattle.dsa_explore.specs.declared.{found.Explored.{Explored}, search.Bounds.{Bounds}, stored.Search.{Search}}
use Rattle.dsa_explore.specs.declared.halting.Halt.{Halt, TheVariants.{States, KeyBytes, Steps, Lost}}
use Rattle.dsa_explore.specs.Search.{Space, IsLawfulSpace}
use Rattle.dsa_explore.specs.{Stored.{last_level, node_levels}, Trying.{IsSearched}, Counted.{IsKeyReached}}
use Rattle.dsa_explore.specs.{Halting.{IsHalted, IsMet}, Bounds.{CanReachStates, CanReachLongKey, MetBounds, met_states}}
use Rattle.dsa_explore.specs.Bounds.{met_key_bytes, met_steps}
use Rattle.dsa_explore.proofs.{Growth.{get-below, get-push}, Ahead.{stopped}, Reached.{reached-none}}

-- what is not something is nothing
pub is-none : {X : Type 0} (o : Option X) (b : Bool) → is_some o ≡ not b → b ≡ is_none o
is-none None true e = refl
is-none None false e = absurd cc
is-none (Some x) true e = absurd cc
is-none (Some x) false e = refl

-- what holds where there is nothing
pub when-none : {X N : Type 0} (o : Option X) → IfNone o N → is_none o ≡ true → N
when-none None n e = n
when-none (Some x) n e = let clash : false ≡ true = e in absurd cc

contained : {X : Type 0} (xs : List X) (i : ℕ) (x : X) → slice_get xs i ≡ Some x → slice_index_or xs i x ≡ x
contained [] i x h = absurd cc
contained (y ∷ ys) zero x h = same_Some y x h
contained (y ∷ ys) (suc i) x h = contained ys i x h

-- a key that is not there has its own number
once-more : (keys : List (List ℕ)) (key : List ℕ) → HasOneNumberEach keys → ¬ (Contains keys key)
    → HasOneNumberEach (keys ++ key ∷ [])
once-more keys key once new i j string at here = ⊎_elim
    (λ (p : slice_get keys i ≡ Some string). ⊎_elim
    (λ (q : slice_get keys j ≡ Some string). once i j string p q)
    (λ q. absurd (not-there i string p q.1)) (get-push keys key j string here))
    (λ p. ⊎_elim
    (λ (q : slice_get keys j ≡ Some string). absurd (not-there j string q p.1))
    (λ q. p.0 ∙ sym q.0) (get-push keys key j string here))
    (get-push keys key i string at)
  where
    not-there : (k : ℕ) (string : List ℕ) → slice_get keys k ≡ Some string → key ≡ string → ⊥
    not-there k string p same =
        new (
          k,
          get-below keys k string p,
          subst (λ (s : List ℕ). slice_index_or keys k s ≡ s) (sym same)
              (contained keys k string p),
        )

module _ {P M : Type 0} (parties : Parties P M) (bytes_of : World P → List ℕ) (first : World P) where
  later : (old new : ℕ) (bytes : List ℕ) → old ≤ new → IsKeyReached parties bytes_of first old bytes
      → IsKeyReached parties bytes_of first new bytes
  later old new bytes more r = record {
    world = r.world;
    steps = r.steps;
    reached = r.reached;
    soon = omega (arith, more, r.soon);
    same = r.same;
  }

  -- the first world has its own key
  pub first-key : (moves : ℕ) → IsKeyReached parties bytes_of first moves (bytes_of first)
  first-key moves = record {
    world = first;
    steps = 0;
    reached = reached-none parties first;
    soon = omega arith;
    same = refl;
  }

  -- it is one state that can be reached
  pub first-state : (count moves : ℕ) → count ≡ 1 → CanReachStates parties bytes_of first count moves
  first-state count moves one = record {
    keys = bytes_of first ∷ [];
    count_is = sym one;
    once = λ i j string at here. once i j string at here;
    reached = λ bytes i. ⊎_elim
        (λ (e : bytes_of first ≡ bytes). subst (IsKeyReached parties bytes_of first moves) e (first-key moves))
        (λ none. absurd none) i;
  }
    where
      once : (i j : ℕ) (string : List ℕ) → slice_get (bytes_of first ∷ []) i ≡ Some string
          → slice_get (bytes_of first ∷ []) j ≡ Some string → i ≡ j
      once zero zero string at here = refl
      once zero (suc j) string at here = absurd cc
      once (suc i) j string at here = absurd cc

  -- a search that stores no state met a bound by the first one
  pub none-stored : (bounds : Bounds) (set_up : ℕ) (explored : Explored) (most width : ℕ) → most ≡ bounds.states
      → width ≡ bounds.key_bytes → explored.states ≡ 0 → (most ≡ 0) ⊎ (width < length (bytes_of first))
      → MetBounds bounds parties bytes_of first set_up explored
  none-stored bounds set_up explored most width same same' none (inl zero-most) = met_states
      (omega (arith, same, none, zero-most))
      (first-state (bounds.states + 1) (explored.depth + 1) (omega (arith, same, zero-most)))
  none-stored bounds set_up explored most width same same' none (inr long) = met_key_bytes (record {
    bytes = bytes_of first;
    reached = first-key (explored.depth + 1);
    long = omega (arith, long, same');
  })

  -- all keys that are stored, and one that is not
  pub one-state-more : (keys : List (List ℕ)) (bytes : List ℕ) (count depth : ℕ) → length keys ≡ count
      → HasOneNumberEach keys → ((key : List ℕ) → In key keys → IsKeyReached parties bytes_of first depth key)
      → ¬ (Contains keys bytes) → IsKeyReached parties bytes_of first (depth + 1) bytes
      → CanReachStates parties bytes_of first (count + 1) (depth + 1)
  one-state-more keys bytes count depth many once sound new reached = record {
    keys = keys ++ bytes ∷ [];
    count_is = length-append keys (bytes ∷ []) ∙ ap (λ n. n + 1) many;
    once = once-more keys bytes once new;
    reached = λ key i. ⊎_elim (λ j. later depth (depth + 1) key (omega arith) (sound key j))
        (λ (e : bytes ≡ key). subst (IsKeyReached parties bytes_of first (depth + 1)) e reached)
        (In-push key keys bytes i);
  }

module _ {P : Type 0} (space : Space P Move) (lawful : IsLawfulSpace space)
    (byte-keys : (w v : World P) → HaveEqualKeys w v → space.bytes_of w ≡ space.bytes_of v) (first : World P) where
  pub halted-met : (bounds : Bounds) (set_up : ℕ) (search : Search) (halt : Halt) (explored : Explored)
      → IsHalted space first set_up search halt → search.seen.most ≡ bounds.states
      → search.seen.width ≡ bounds.key_bytes → explored.states ≡ length search.seen.strings
      → HasOneNumberEach search.seen.strings → explored.depth ≡ last_level (node_levels search)
      → MetBounds bounds space.parties space.bytes_of first set_up explored
  halted-met bounds set_up search halt explored halted most width count once depth = go halt halted.met
    where
      last : ℕ
      last = last_level (node_levels search)

      go : (halt : Halt) → IsMet space first set_up search halt
          → MetBounds bounds space.parties space.bytes_of first set_up explored
      go States met = met_states (count ∙ met.full ∙ most)
          (subst (λ (d : ℕ). CanReachStates space.parties space.bytes_of first (bounds.states + 1) (d + 1)) (sym depth)
          (one-state-more space.parties space.bytes_of first search.seen.strings met.bytes bounds.states last
          (met.full ∙ most) once (stopped space lawful byte-keys first search halted.table halted.is_search).keys.sound
          met.new met.reached))
      go KeyBytes met = met_key_bytes
          (subst (λ (w : ℕ). CanReachLongKey space.parties space.bytes_of first w (explored.depth + 1)) width
          (subst (λ (d : ℕ). CanReachLongKey space.parties space.bytes_of first search.seen.width (d + 1)) (sym depth)
          met))
      go Steps met = met_steps (subst (λ (d : ℕ). 2 ^ 20 ≤ set_up + d) (sym depth) met)
      go Lost met = absurd met

  -- what a search leaves, whether it halts or not
  pub as-searched : (search : Search) (set_up : ℕ) (halted : Option Halt) {N : Type 0} {S : Halt → Type 0}
      → IfNone halted N → IfSome halted S → (N → IsSearched space first search true)
      → ((halt : Halt) → S halt → IsHalted space first set_up search halt)
      → IsSearched space first search (is_none halted)
  as-searched search set_up None whole stops f g = f whole
  as-searched search set_up (Some halt) whole stops f g =
      let h = g halt stops in
      stopped space lawful byte-keys first search h.table h.is_search

  -- why it halts
  pub as-halted : (search : Search) (set_up : ℕ) (halted : Option Halt) {S : Halt → Type 0}
      → is_none halted ≡ false → IfSome halted S
      → ((halt : Halt) → S halt → IsHalted space first set_up search halt)
      → (halt : Halt) × IsHalted space first set_up search halt
  as-halted search set_up None is stops g = let clash : true ≡ false = is in absurd cc
  as-halted search set_up (Some halt) is stops g = (halt, g halt stops)
