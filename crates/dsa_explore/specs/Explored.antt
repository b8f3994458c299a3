-- What may come of parties' moves, and a search that found it.
use Rattle.std.specs.Prelude.{◌≡◌, ℕ, ◌+◌, ◌≤◌, Bool, true, List, length, Option, Some}
use Rattle.dsa_base.specs.Lists.{In}
use Rattle.dsa_keys.specs.Parties.{Parties, World, Made, world_after, world_after_all}
use Rattle.dsa_explore.specs.declared.found.{Ask.{Ask}, Finding.{Finding}, Found.{Found}}
use Rattle.dsa_explore.specs.Findings.{findings_of}

-- what a party asks for by a move, by where the parties stand; an engine asks for nothing
abbrev pub AskOf : Type 0 → Type 0 → Type 0
AskOf P M = P → M → Option Ask

-- the finding may come with so many moves from the first world: the last of them tells it
pub record MayCome {P M : Type 0} (parties : Parties P M) (asks : AskOf P M) (first : World P) (steps : ℕ)
    (finding : Finding) : Type 0 where
  pub moves : List (Made M)
  pub before : World P
  pub leads : world_after_all parties first moves ≡ Some before
  pub last : Made M
  pub after : World P
  pub ends : world_after parties before last.move last.reply ≡ Some after
  pub tells : In finding (findings_of (asks before.places last.move) before after last.reply)
  pub count : steps ≡ length moves + 1

-- a row has the finding, with so many steps at most
pub record IsFound (rows : List Found) (steps : ℕ) (finding : Finding) : Type 0 where
  pub row : Found
  pub within : In row rows
  pub same : row.finding ≡ finding
  pub soon : row.steps ≤ steps

-- each row may come as it says; where the search is complete, all that may come is found, and each row has the least
-- number of steps with which it may
pub record AreFindings {P M : Type 0} (parties : Parties P M) (asks : AskOf P M) (first : World P)
    (rows : List Found) (is_complete : Bool) : Type 0 where
  pub sound : (row : Found) → In row rows → MayCome parties asks first row.steps row.finding
  pub complete : is_complete ≡ true → (steps : ℕ) (finding : Finding) → MayCome parties asks first steps finding
      → IsFound rows steps finding
  pub least : is_complete ≡ true → (row : Found) (steps : ℕ) → In row rows
      → MayCome parties asks first steps row.finding → row.steps ≤ steps
