-- How many states a search found: as many as there are keys of the worlds to which the parties come.
use Rattle.std.specs.Prelude.{◌≡◌, ℕ, ◌≤◌, Bool, true, false, List, [], length}
use Rattle.dsa_base.specs.Lists.{In}
use Rattle.dsa_seen.specs.Table.{HasOneNumberEach}
use Rattle.dsa_keys.specs.Parties.{Parties, World}
use Rattle.dsa_explore.specs.declared.found.Explored.{Explored}
use Rattle.dsa_explore.specs.Search.{IsReached}

-- these are the bytes of a world to which so many moves lead, or fewer
pub record IsKeyReached {P M : Type 0} (parties : Parties P M) (bytes_of : World P → List ℕ) (first : World P)
    (depth : ℕ) (bytes : List ℕ) : Type 0 where
  pub world : World P
  pub steps : ℕ
  pub reached : IsReached parties first steps world
  pub soon : steps ≤ depth
  pub same : bytes_of world ≡ bytes

-- each of these keys is reached, with so many moves at most; where the search is complete, they are the keys of all
-- worlds to which moves lead
pub record AreKeysReached {P M : Type 0} (parties : Parties P M) (bytes_of : World P → List ℕ) (first : World P)
    (depth : ℕ) (is_complete : Bool) (keys : List (List ℕ)) : Type 0 where
  pub sound : (bytes : List ℕ) → In bytes keys → IsKeyReached parties bytes_of first depth bytes
  pub complete : is_complete ≡ true → (steps : ℕ) (w : World P) → IsReached parties first steps w
      → In (bytes_of w) keys

-- the states are as many as these keys, none of which is there twice
pub record CountsStates {P M : Type 0} (parties : Parties P M) (bytes_of : World P → List ℕ) (first : World P)
    (explored : Explored) : Type 0 where
  pub keys : List (List ℕ)
  pub count : length keys ≡ explored.states
  pub once : HasOneNumberEach keys
  pub reached : AreKeysReached parties bytes_of first explored.depth explored.is_complete keys

-- some state can be reached with so many moves, and with no fewer
pub record NeedsMoves {P M : Type 0} (parties : Parties P M) (bytes_of : World P → List ℕ) (first : World P)
    (moves : ℕ) : Type 0 where
  pub world : World P
  pub reached : IsReached parties first moves world
  pub least : (steps : ℕ) (w : World P) → IsReached parties first steps w → bytes_of w ≡ bytes_of world → moves ≤ steps

-- a search that stored no state found nothing
pub record FoundNothing (explored : Explored) : Type 0 where
  pub rows : explored.rows.items ≡ []
  pub tried : explored.tried ≡ 0
  pub depth : explored.depth ≡ 0
  pub is_complete : explored.is_complete ≡ false
