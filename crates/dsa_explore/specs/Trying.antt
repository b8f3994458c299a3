-- A search while it tries the moves from one stored world.
use Rattle.std.specs.Prelude.{◌≡◌, ℕ, ◌+◌, ◌^◌, ◌<◌, length, Bool, true, List, Some, slice_get}
use Rattle.dsa_base.specs.Lists.{In}
use Rattle.dsa_keys.specs.Parties.{World, Stored, HaveEqualKeys, IsStored}
use Rattle.dsa_parties.specs.declared.places.Move.{Move}
use Rattle.dsa_explore.specs.declared.found.Found.{Found}
use Rattle.dsa_explore.specs.declared.stored.{Search.{Search}, Try.{Try}}
use Rattle.dsa_explore.specs.Search.{Space, IsFine, IsWorldTable, AreRows, IsExpanded, IsTriedBy, AreWritten, AreWithin}
use Rattle.dsa_explore.specs.Search.{IsReached}
use Rattle.dsa_explore.specs.{Explored.{AreFindings}, Counted.{AreKeysReached, NeedsMoves}}
use Rattle.dsa_explore.specs.Stored.{last_level, node_levels}
use Rattle.dsa_seen.specs.Table.{HasOneNumberEach}
use Rattle.dsa_explore.specs.Ways.{AreTold, AreByLevel, AreRowsTold}

-- the worlds of a table are stored in the search, and its rows may come
pub record IsSearch {P : Type 0} (space : Space P Move) (first : World P) (search : Search) (table : List (Stored P))
    : Type 0 where
  pub table_is : IsWorldTable space first search.seen.strings (node_levels search) search.front table
  pub rows_are : AreRows space first search.front search.rows.items
  pub written : AreWritten space search.seen.strings table
  pub within : AreWithin (last_level (node_levels search)) table
  pub told : AreTold space search.nodes.items table
  pub by_level : AreByLevel table
  pub rows_told : AreRowsTold space table search.rows.items

-- what a search leaves: its rows, and the keys of the worlds that it stored, of which there is one
pub record IsSearched {P : Type 0} (space : Space P Move) (first : World P) (search : Search) (is_complete : Bool)
    : Type 0 where
  pub findings : AreFindings space.parties space.asks first search.rows.items is_complete
  pub keys : AreKeysReached space.parties space.bytes_of first (last_level (node_levels search)) is_complete
      search.seen.strings
  pub some : 0 < length search.seen.strings
  pub deep : is_complete ≡ true → HasOneNumberEach search.seen.strings
      → NeedsMoves space.parties space.bytes_of first (last_level (node_levels search))

-- after a set-up of so many events and the moves to any of these worlds, a history has room for one step more
abbrev pub HasRoomBehind : {P : Type 0} → ℕ → List (Stored P) → Type 0
HasRoomBehind {P} set_up table = (x : Stored P) → In x table → set_up + x.level < 2 ^ 20

-- all worlds to which moves lead are stored in the search, as soon as they do, and before its front
pub record HasReached {P : Type 0} (space : Space P Move) (first : World P) (search : Search) : Type 0 where
  pub table : List (Stored P)
  pub is_search : IsSearch space first search table
  pub all : (steps : ℕ) (w : World P) → IsReached space.parties first steps w → IsStored table steps w
  pub behind : (x : Stored P) → In x table → x.level < search.front

-- the search stands at the stored world of this number, which is one level before its front
pub record IsAt {P : Type 0} (space : Space P Move) (first : World P) (search : Search) (table : List (Stored P))
    (number : ℕ) (x : Stored P) : Type 0 where
  pub is_search : IsSearch space first search table
  pub at : slice_get table number ≡ Some x
  pub front : search.front ≡ x.level + 1

-- later it stands there still, and all that was stored and found is
pub record IsFurther {P : Type 0} (space : Space P Move) (first : World P) (old : Search) (table : List (Stored P))
    (number : ℕ) (x : Stored P) (new : Search) (more : List (Stored P)) : Type 0 where
  pub is_at : IsAt space first new more number x
  pub worlds : (i : ℕ) (y : Stored P) → slice_get table i ≡ Some y → slice_get more i ≡ Some y
  pub kept : (y : Stored P) → In y table → In y more
  pub rows : (row : Found) → In row old.rows.items → In row new.rows.items

-- and these were tried
pub record AreTried {P : Type 0} (space : Space P Move) (first : World P) (old : Search) (table : List (Stored P))
    (number : ℕ) (x : Stored P) (tries : List Try) (new : Search) : Type 0 where
  pub more : List (Stored P)
  pub further : IsFurther space first old table number x new more
  pub tried : (try : Try) → In try tries
      → IsTriedBy space.parties space.asks more new.rows.items (x.level + 1) x.world try.by try.queue

-- the world is a fine one, with the key of the stored one
pub record IsThere {P : Type 0} (space : Space P Move) (x : Stored P) (w : World P) : Type 0 where
  pub fine : IsFine space w
  pub keys : HaveEqualKeys w x.world

-- one step was tried from the stored world; where it led back, the world w has its key
pub record IsAttempted {P : Type 0} (space : Space P Move) (first : World P) (old : Search) (table : List (Stored P))
    (number : ℕ) (x : Stored P) (try : Try) (new : Search) (w : World P) (back : Bool) : Type 0 where
  pub more : List (Stored P)
  pub further : IsFurther space first old table number x new more
  pub tried : IsTriedBy space.parties space.asks more new.rows.items (x.level + 1) x.world try.by try.queue
  pub there : back ≡ true → IsThere space x w

-- the world was expanded
pub record IsExpandedAt {P : Type 0} (space : Space P Move) (first : World P) (old : Search) (table : List (Stored P))
    (number : ℕ) (x : Stored P) (new : Search) : Type 0 where
  pub more : List (Stored P)
  pub is_search : IsSearch space first new more
  pub front : new.front ≡ x.level + 1
  pub worlds : (i : ℕ) (y : Stored P) → slice_get table i ≡ Some y → slice_get more i ≡ Some y
  pub kept : (y : Stored P) → In y table → In y more
  pub rows : (row : Found) → In row old.rows.items → In row new.rows.items
  pub expanded : IsExpanded space.parties space.asks more new.rows.items (x.level + 1) x.world
