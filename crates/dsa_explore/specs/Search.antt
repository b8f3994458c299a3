-- What a search keeps: worlds that were stored, by their keys in bytes, and the rows that were found.
use Rattle.std.specs.Prelude.{◌≡◌, ℕ, ◌≤◌, Bool, List, length, map, Option, Some, None, slice_get}
use Rattle.dsa_base.specs.Lists.{In}
use Rattle.dsa_regs.specs.declared.Caps.{Caps}
use Rattle.dsa_book.specs.declared.answer.{Reply.{Reply, TheVariants.{Dispatch}}, DispatchAnswer.TheVariants.{Taken}}
use Rattle.dsa_keys.specs.{Short.{Descriptions, IsDescribed}}
use Rattle.dsa_keys.specs.Parties.{Parties, World, Made, Stored, AreLawful, IsGoodWorld, HaveEqualKeys, IsStored}
use Rattle.dsa_keys.specs.Parties.{world_after, world_after_all}
use Rattle.dsa_explore.specs.declared.found.{Finding.{Finding}, Found.{Found}}
use Rattle.dsa_explore.specs.{Findings.{findings_of}, Explored.{AskOf, MayCome, IsFound}}

-- ---- what is searched

-- the parties and what they ask for, which worlds are good, what labels say, and the key of a world in bytes
pub record Space (P M : Type 0) : Type 0 where
  pub caps : Caps
  pub parties : Parties P M
  pub asks : AskOf P M
  pub good : World P → Bool
  pub described : Descriptions
  pub bytes_of : World P → List ℕ

-- the world is a good one, and its entries are as their labels say
pub record IsFine {P M : Type 0} (space : Space P M) (w : World P) : Type 0 where
  pub good : IsGoodWorld space.caps space.good w
  pub described : IsDescribed space.described w.labels w.state

-- moves keep worlds fine, and equal bytes are equal keys
pub record IsLawfulSpace {P M : Type 0} (space : Space P M) : Type 0 where
  pub lawful : AreLawful space.caps space.parties space.good
  pub kept : (w w' : World P) (move : M) (reply : Reply) → IsFine space w
      → world_after space.parties w move reply ≡ Some w' → IsDescribed space.described w'.labels w'.state
  pub keys : (w v : World P) → IsFine space w → IsFine space v → space.bytes_of w ≡ space.bytes_of v
      → HaveEqualKeys w v

-- ---- worlds that are stored

-- so many moves lead from the first world to w
pub record IsReached {P M : Type 0} (parties : Parties P M) (first : World P) (steps : ℕ) (w : World P) : Type 0 where
  pub moves : List (Made M)
  pub leads : world_after_all parties first moves ≡ Some w
  pub count : steps ≡ length moves

-- a world that is stored is a fine one, and as many moves lead to it as its level says
pub record IsStoredWorld {P M : Type 0} (space : Space P M) (first : World P) (x : Stored P) : Type 0 where
  pub fine : IsFine space x.world
  pub reached : IsReached space.parties first x.level x.world

-- each world with these bytes has the key of w
abbrev pub IsKeyOf : {P M : Type 0} → Space P M → List ℕ → World P → Type 0
IsKeyOf {P} {M} space bytes w = (u : World P) → IsFine space u → space.bytes_of u ≡ bytes → HaveEqualKeys u w

-- a table of stored worlds has these keys and these levels, none of them behind the front
pub record IsWorldTable {P M : Type 0} (space : Space P M) (first : World P) (keys : List (List ℕ)) (levels : List ℕ)
    (front : ℕ) (table : List (Stored P)) : Type 0 where
  pub count : length keys ≡ length table
  pub keyed : (i : ℕ) (bytes : List ℕ) (x : Stored P) → slice_get keys i ≡ Some bytes
      → slice_get table i ≡ Some x → IsKeyOf space bytes x.world
  pub levelled : map (λ (x : Stored P). x.level) table ≡ levels
  pub worlds : (x : Stored P) → In x table → IsStoredWorld space first x
  pub low : (x : Stored P) → In x table → x.level ≤ front
  pub begin : In (record { level = 0; world = first }) table

-- each key is the bytes of the world of its number
abbrev pub AreWritten : {P M : Type 0} → Space P M → List (List ℕ) → List (Stored P) → Type 0
AreWritten {P} {M} space keys table = (i : ℕ) (bytes : List ℕ) (x : Stored P) → slice_get keys i ≡ Some bytes
    → slice_get table i ≡ Some x → space.bytes_of x.world ≡ bytes

-- no world is stored at a later level
abbrev pub AreWithin : {P : Type 0} → ℕ → List (Stored P) → Type 0
AreWithin {P} depth table = (x : Stored P) → In x table → x.level ≤ depth

-- ---- rows

-- each row may come, with no more steps than the front says, and no two have one finding
pub record AreRows {P M : Type 0} (space : Space P M) (first : World P) (front : ℕ) (rows : List Found) : Type 0 where
  pub sound : (row : Found) → In row rows → MayCome space.parties space.asks first row.steps row.finding
  pub early : (row : Found) → In row rows → row.steps ≤ front
  pub distinct : (row other : Found) → In row rows → In other rows → row.finding ≡ other.finding → row ≡ other

-- ---- steps that were tried

-- a step of the world v led to v', which is stored at this level or before, and what it told is found by then
pub record IsStepNoted {P M : Type 0} (asks : AskOf P M) (table : List (Stored P)) (rows : List Found) (level : ℕ)
    (v : World P) (move : M) (reply : Reply) (v' : World P) : Type 0 where
  pub stored : IsStored table level v'
  pub told : (finding : Finding) → In finding (findings_of (asks v.places move) v v' reply)
      → IsFound rows level finding

-- each step from the world that may come is noted so
abbrev pub IsExpanded : {P M : Type 0} → Parties P M → AskOf P M → List (Stored P) → List Found → ℕ → World P → Type 0
IsExpanded {P} {M} parties asks table rows level v = (v' : World P) (move : M) (reply : Reply)
    → world_after parties v move reply ≡ Some v' → IsStepNoted asks table rows level v move reply v'

-- the queue that the reply tells an entry to be taken from
abbrev pub queue_taken_from : Reply → Option ℕ
queue_taken_from (Dispatch (Taken ticket queue)) = Some queue
queue_taken_from reply = None

-- each reply to the move that takes from this queue, or from none, is noted so
abbrev pub IsTriedBy : {P M : Type 0} → Parties P M → AskOf P M → List (Stored P) → List Found → ℕ → World P → M
    → Option ℕ → Type 0
IsTriedBy {P} {M} parties asks table rows level v move queue = (v' : World P) (reply : Reply)
    → world_after parties v move reply ≡ Some v' → queue_taken_from reply ≡ queue
    → IsStepNoted asks table rows level v move reply v'
