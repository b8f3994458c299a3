-- The ways to stored worlds, which their nodes tell.
use Rattle.std.specs.Prelude.{◌≡◌, ℕ, ◌+◌, ◌<◌, ◌≤◌, List, [], ◌∷◌, Some, slice_get}
use Rattle.dsa_base.specs.Lists.{In}
use Rattle.dsa_book.specs.declared.answer.Reply.{Reply}
use Rattle.dsa_keys.specs.Parties.{World, Stored, world_after}
use Rattle.dsa_parties.specs.declared.places.Move.{Move}
use Rattle.dsa_explore.specs.declared.{found.{Finding.{Finding}, Found.{Found}}, stored.{Node.{Node}, Try.{Try}}}
use Rattle.dsa_explore.specs.{Findings.{findings_of}, Search.{Space, queue_taken_from}}

-- the try leads from w to v: its reply takes an entry from the queue that it names, or from none
pub record IsTakenStep {P : Type 0} (space : Space P Move) (w : World P) (tried : Try) (v : World P) : Type 0 where
  pub reply : Reply
  pub leads : world_after space.parties w tried.by reply ≡ Some v
  pub taken : queue_taken_from reply ≡ tried.queue

-- these tries lead from w to v
abbrev pub IsWay : {P : Type 0} → Space P Move → World P → List Try → World P → Type 0
IsWay space w [] v = w ≡ v
IsWay {P} space w (tried ∷ rest) v = (u : World P) × (IsTakenStep space w tried u × IsWay space u rest v)

-- this is the node of the world: it tells a step to it, from one with a lower number and one level before
pub record IsNodeTo {P : Type 0} (space : Space P Move) (table : List (Stored P)) (number : ℕ) (node : Node)
    (x : Stored P) : Type 0 where
  pub before : node.parent < number
  pub parent : Stored P
  pub at : slice_get table node.parent ≡ Some parent
  pub later : x.level ≡ parent.level + 1
  pub step : IsTakenStep space parent.world node.tried x.world

-- the nodes tell so of each world that is not of level 0
abbrev pub AreTold : {P : Type 0} → Space P Move → List Node → List (Stored P) → Type 0
AreTold {P} space nodes table = (i : ℕ) (node : Node) (x : Stored P) → slice_get nodes i ≡ Some node
    → slice_get table i ≡ Some x → 0 < x.level → IsNodeTo space table i node x

-- worlds stand in the order of their levels, and no level is higher than the number of its world
pub record AreByLevel {P : Type 0} (table : List (Stored P)) : Type 0 where
  pub rising : (i j : ℕ) (x y : Stored P) → i ≤ j → slice_get table i ≡ Some x → slice_get table j ≡ Some y
      → x.level ≤ y.level
  pub early : (i : ℕ) (x : Stored P) → slice_get table i ≡ Some x → x.level ≤ i

-- the nodes have the levels of these worlds, tell the steps to them, and those of level 0 are the first world
pub record TellWays {P : Type 0} (space : Space P Move) (first : World P) (nodes : List Node)
    (table : List (Stored P)) : Type 0 where
  pub levels : (i : ℕ) (node : Node) (x : Stored P) → slice_get nodes i ≡ Some node → slice_get table i ≡ Some x
      → node.level ≡ x.level
  pub each : (i : ℕ) (x : Stored P) → slice_get table i ≡ Some x → (node : Node) × (slice_get nodes i ≡ Some node)
  pub begin : (i : ℕ) (x : Stored P) → slice_get table i ≡ Some x → x.level ≡ 0 → first ≡ x.world
  pub told : AreTold space nodes table

-- ---- rows

-- a step from w tells the finding: its reply takes an entry from the queue that the try names, or from none
pub record IsTellingStep {P : Type 0} (space : Space P Move) (w : World P) (tried : Try) (finding : Finding) : Type 0
  where
    pub reply : Reply
    pub after : World P
    pub leads : world_after space.parties w tried.by reply ≡ Some after
    pub taken : queue_taken_from reply ≡ tried.queue
    pub tells : In finding (findings_of (space.asks w.places tried.by) w after reply)

-- a step from a stored world tells the finding of the row, and is the last of as many as the row says
pub record IsRowTold {P : Type 0} (space : Space P Move) (table : List (Stored P)) (row : Found) : Type 0 where
  pub from : Stored P
  pub within : In from table
  pub later : row.steps ≡ from.level + 1
  pub tried : Try
  pub tells : IsTellingStep space from.world tried row.finding

-- each row is told so
abbrev pub AreRowsTold : {P : Type 0} → Space P Move → List (Stored P) → List Found → Type 0
AreRowsTold space table rows = (row : Found) → In row rows → IsRowTold space table row
