-- The bounds that a search meets where it is not complete.
use Rattle.std.specs.Prelude.{◌≡◌, ℕ, ◌+◌, ◌^◌, ◌<◌, ◌≤◌, List, length}
use Rattle.dsa_base.specs.Lists.{In}
use Rattle.dsa_seen.specs.Table.{HasOneNumberEach}
use Rattle.dsa_regs.specs.declared.Caps.{Caps}
use Rattle.dsa_book.specs.declared.event.Event.{Event}
use Rattle.dsa_keys.specs.Parties.{Parties, World}
use Rattle.dsa_parties.specs.{declared.script.Script.{Script}, Standing.{Standing}, Offers.{parties_of}}
use Rattle.dsa_explore.specs.declared.{found.Explored.{Explored}, search.Bounds.{Bounds}}
use Rattle.dsa_explore.specs.{Counted.{IsKeyReached}, Keys.{world_bytes}, Walked.{IsFirst}}

-- so many states can be reached, each with so many moves at most: these are the bytes of their keys, which differ
pub record CanReachStates {P M : Type 0} (parties : Parties P M) (bytes_of : World P → List ℕ) (first : World P)
    (count moves : ℕ) : Type 0 where
  pub keys : List (List ℕ)
  pub count_is : length keys ≡ count
  pub once : HasOneNumberEach keys
  pub reached : (bytes : List ℕ) → In bytes keys → IsKeyReached parties bytes_of first moves bytes

-- a state can be reached, with so many moves at most, whose key has more bytes than these
pub record CanReachLongKey {P M : Type 0} (parties : Parties P M) (bytes_of : World P → List ℕ) (first : World P)
    (most moves : ℕ) : Type 0 where
  pub bytes : List ℕ
  pub reached : IsKeyReached parties bytes_of first moves bytes
  pub long : most < length bytes

-- a bound was met. As many states are stored as may be, and one more can be reached; or a state can be reached whose
-- key has more bytes than it may have; or a device has no room for the set-up, as many steps as the depth, and one more
pub data MetBounds {P M : Type 0} (bounds : Bounds) (parties : Parties P M) (bytes_of : World P → List ℕ)
    (first : World P) (set_up : ℕ) (explored : Explored) : Type 0 where
  met_states : explored.states ≡ bounds.states
      → CanReachStates parties bytes_of first (bounds.states + 1) (explored.depth + 1)
      → MetBounds bounds parties bytes_of first set_up explored
  met_key_bytes : CanReachLongKey parties bytes_of first bounds.key_bytes (explored.depth + 1)
      → MetBounds bounds parties bytes_of first set_up explored
  met_steps : 2 ^ 20 ≤ set_up + explored.depth → MetBounds bounds parties bytes_of first set_up explored

-- where the set-up led to, a bound was met
pub record IsBounded (bounds : Bounds) (caps : Caps) (script : Script) (events : List Event) (explored : Explored)
    : Type 0 where
  pub first : World Standing
  pub begun : IsFirst caps script events first
  pub met : MetBounds bounds (parties_of script) world_bytes first (length events) explored
