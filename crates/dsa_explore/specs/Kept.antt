-- What a search keeps, so that the steps of its rows are found again.
use Rattle.std.specs.Prelude.{◌≡◌, ℕ, ◌+◌, ◌^◌, ◌≤◌, true, List, length, Some, slice_get}
use Rattle.dsa_base.specs.Lists.{In}
use Rattle.dsa_regs.specs.declared.Caps.{Caps}
use Rattle.dsa_book.specs.declared.event.Event.{Event}
use Rattle.dsa_keys.specs.Parties.{World, Stored, HaveEqualKeys, IsStored}
use Rattle.dsa_parties.specs.{declared.script.Script.{Script}, Standing.{Standing}, Offers.{parties_of}}
use Rattle.dsa_explore.specs.declared.{found.Found.{Found}, search.Searched.{Searched}}
use Rattle.dsa_explore.specs.{Schedules.{IsScheduleTo}, Search.{IsReached}, Walked.{space_of, world_of, IsFirst}}
use Rattle.dsa_explore.specs.{Ways.{TellWays, AreByLevel, AreRowsTold}, declared.visiting.Visited.{Visited}}

-- the nodes tell the way to each state that counts, by level, and each is reached so; a step from one of these states
-- tells each row; a history has room for the set-up and for these steps; and where the search is complete, each world
-- that can be reached is stored
pub record KeepsWays (caps : Caps) (script : Script) (setup : List Event) (searched : Searched) : Type 0 where
  pub first : World Standing
  pub begun : IsFirst caps script setup first
  pub table : List (Stored Standing)
  pub count : length table ≡ searched.explored.states
  pub ways : TellWays (space_of caps script) first searched.nodes.items table
  pub told : AreRowsTold (space_of caps script) table searched.explored.rows.items
  pub worlds : (x : Stored Standing) → In x table → IsReached (parties_of script) first x.level x.world
  pub by_level : AreByLevel table
  pub all : searched.explored.is_complete ≡ true → (steps : ℕ) (w : World Standing)
      → IsReached (parties_of script) first steps w → IsStored table steps w
  pub early : (x : Stored Standing) → In x table → length setup + x.level ≤ 2 ^ 20
  pub room : (row : Found) → In row searched.explored.rows.items → length setup + row.steps ≤ 2 ^ 20

-- a device on which the parties stand as in the stored world of this number, how many moves lead there, and the steps
-- of the set-up and of these moves
pub record IsVisitOf {caps : Caps} {script : Script} {setup : List Event} {searched : Searched}
    (keeps : KeepsWays caps script setup searched) (number : ℕ) (visited : Visited) : Type 0 where
  pub there : (x : Stored Standing) → slice_get keeps.table number ≡ Some x
      → HaveEqualKeys (world_of visited.walked.value) x.world
  pub level : (x : Stored Standing) → slice_get keeps.table number ≡ Some x → visited.level ≡ x.level
  pub schedule : (x : Stored Standing) → slice_get keeps.table number ≡ Some x
      → IsScheduleTo caps script setup x.level (world_of visited.walked.value) visited.steps.items
