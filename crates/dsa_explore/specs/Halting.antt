-- Why a search halts before it has tried all.
use Rattle.std.specs.Prelude.{◌≡◌, ℕ, ◌+◌, ◌^◌, ◌≤◌, List, length, Contains}
use Rattle.dsa_keys.specs.Parties.{World, Stored}
use Rattle.dsa_parties.specs.declared.places.Move.{Move}
use Rattle.dsa_explore.specs.declared.{halting.Halt.{Halt, TheVariants.{States, KeyBytes, Steps, Lost}}}
use Rattle.dsa_explore.specs.declared.stored.Search.{Search}
use Rattle.dsa_explore.specs.{Search.{Space}, Stored.{last_level, node_levels}, Trying.{IsSearch}}
use Rattle.dsa_explore.specs.{Counted.{IsKeyReached}, Bounds.{CanReachLongKey}}

-- as many worlds are stored as may be, and one with another key can be reached, at most a level behind the last
pub record IsFullSearch {P : Type 0} (space : Space P Move) (first : World P) (search : Search) : Type 0 where
  pub full : length search.seen.strings ≡ search.seen.most
  pub bytes : List ℕ
  pub reached : IsKeyReached space.parties space.bytes_of first (last_level (node_levels search) + 1) bytes
  pub new : ¬ (Contains search.seen.strings bytes)

-- what a search with a set-up of so many events met, so that it halted
abbrev pub IsMet : {P : Type 0} → Space P Move → World P → ℕ → Search → Halt → Type 0
IsMet space first set_up search States = IsFullSearch space first search
IsMet space first set_up search KeyBytes = CanReachLongKey space.parties space.bytes_of first search.seen.width
    (last_level (node_levels search) + 1)
IsMet space first set_up search Steps = 2 ^ 20 ≤ set_up + last_level (node_levels search)
IsMet space first set_up search Lost = ⊥

-- a search that halts has stored worlds, and met what it says
pub record IsHalted {P : Type 0} (space : Space P Move) (first : World P) (set_up : ℕ) (search : Search) (halt : Halt)
    : Type 0 where
  pub table : List (Stored P)
  pub is_search : IsSearch space first search table
  pub met : IsMet space first set_up search halt
