-- Parties that make moves: where they stand, what they ask for there, and where they stand after it. And tables of the
-- worlds that they come to.
use Rattle.std.specs.Prelude.{Bool, true, ◌≡◌, ℕ, ◌+◌, ◌≤◌, map, drop, length, List, [], ◌∷◌, Option, Some, option_map}
use Rattle.std.specs.Prelude.{option_and_then}
use Rattle.dsa_base.specs.Lists.{In}
use Rattle.dsa_regs.specs.declared.Caps.{Caps}
use Rattle.dsa_book.specs.declared.{event.Event.{Event}, answer.Reply.{Reply}, fate.FateRow.{FateRow}}
use Rattle.dsa_book.specs.State.{State}
use Rattle.dsa_answers.specs.Alike.{TakeAlike}
use Rattle.dsa_keys.specs.Labels.{Labels, IsFreshLabel, with_next_label, labelled_reply, labelled_row, HaveSameEnds}
use Rattle.dsa_keys.specs.{Key.{Key, key}, Steps.{next_by_label, IsLabelled}}

-- ---- parties

-- what a move asks for: an event by labels, and the label of an entry that it may bring in
pub record Offer : Type 0 where
  pub event : Event
  pub label : ℕ

-- what the parties see of a step: the keys before and after it, its reply by labels, and the rows of what ended
pub record Sight : Type 0 where
  pub before : Key
  pub after : Key
  pub reply : Reply
  pub ends : List FateRow

-- P says where the parties stand and what they remember, and M which of them moves
pub record Parties (P M : Type 0) : Type 0 where
  -- what is asked for there, in a state with this key
  pub offer : P → Key → M → Option Offer
  -- where they stand after a step
  pub moved : P → M → Sight → P

-- where the parties stand, and a state with labels of its names
pub record World (P : Type 0) : Type 0 where
  pub places : P
  pub labels : Labels
  pub state : State

-- ---- moves

-- what a move asks for in a world
abbrev pub offer_at : {P M : Type 0} → Parties P M → World P → M → Option Offer
offer_at parties w move = parties.offer w.places (key w.labels w.state) move

-- the labels with which an offer is made
abbrev pub labels_for : {P : Type 0} → World P → Offer → Labels
labels_for w offer = with_next_label w.labels w.state offer.label

-- what is seen of a step to this state
abbrev pub sight_of : {P : Type 0} → World P → Reply → Offer → State → Sight
sight_of w reply offer s = record {
  before = key w.labels w.state;
  after = key (labels_for w offer) s;
  reply = labelled_reply (labels_for w offer) reply;
  ends = map (labelled_row (labels_for w offer)) (drop (length w.state.work.fates) s.work.fates);
}

-- the world that a step to this state leads to
abbrev pub world_with : {P M : Type 0} → Parties P M → World P → M → Reply → Offer → State → World P
world_with parties w move reply offer s = record {
  places = parties.moved w.places move (sight_of w reply offer s);
  labels = labels_for w offer;
  state = s;
}

-- the world after an offer with this reply, where it may come
abbrev pub world_after_offer : {P M : Type 0} → Parties P M → World P → M → Reply → Offer → Option (World P)
world_after_offer parties w move reply offer = option_map (world_with parties w move reply offer)
    (next_by_label (labels_for w offer) w.state offer.event reply)

-- the world after a move with this reply, where it may come
abbrev pub world_after : {P M : Type 0} → Parties P M → World P → M → Reply → Option (World P)
world_after parties w move reply =
    option_and_then (world_after_offer parties w move reply) (offer_at parties w move)

-- a move and the reply to it
pub record Made (M : Type 0) : Type 0 where
  pub move : M
  pub reply : Reply

-- the world after these moves, where each may follow those before it
abbrev pub world_after_all : {P M : Type 0} → Parties P M → World P → List (Made M) → Option (World P)
world_after_all parties w [] = Some w
world_after_all parties w (made ∷ rest) =
    option_and_then (λ v. world_after_all parties v rest) (world_after parties w made.move made.reply)

-- ---- worlds

-- in good worlds no offer has a label of a name that was given, and moves lead from good worlds to good ones
pub record AreLawful {P M : Type 0} (caps : Caps) (parties : Parties P M) (good : World P → Bool) : Type 0 where
  pub fresh : (w : World P) (move : M) (offer : Offer) → IsLabelled caps w.labels w.state → good w ≡ true
      → offer_at parties w move ≡ Some offer → IsFreshLabel w.labels w.state offer.label
  pub kept : (w w' : World P) (move : M) (reply : Reply) → IsLabelled caps w.labels w.state → good w ≡ true
      → world_after parties w move reply ≡ Some w' → good w' ≡ true

-- the state is labelled, and the world good
pub record IsGoodWorld {P : Type 0} (caps : Caps) (good : World P → Bool) (w : World P) : Type 0 where
  pub is_labelled : IsLabelled caps w.labels w.state
  pub is_good : good w ≡ true

-- the parties stand in the same places, and the keys are equal
pub record HaveEqualKeys {P : Type 0} (w v : World P) : Type 0 where
  pub places : w.places ≡ v.places
  pub keys : key w.labels w.state ≡ key v.labels v.state

-- the move leads from v to a world with the key of w', and tells the same as it does from w to w'
pub record HasSameMove {P M : Type 0} (caps : Caps) (parties : Parties P M) (good : World P → Bool)
    (w w' v : World P) (move : M) (reply : Reply) : Type 0 where
  pub reply' : Reply
  pub v' : World P
  pub leads : world_after parties v move reply' ≡ Some v'
  pub replies : labelled_reply w'.labels reply ≡ labelled_reply v'.labels reply'
  pub ends : HaveSameEnds w'.labels v'.labels w.state.work w'.state.work v.state.work v'.state.work
  pub keys : HaveEqualKeys w' v'
  pub left : IsGoodWorld caps good w'
  pub right : IsGoodWorld caps good v'

-- ---- tables

-- a world in a table, and how many moves lead to it
pub record Stored (P : Type 0) : Type 0 where
  pub level : ℕ
  pub world : World P

-- a world with the same key is stored, at this level or before
pub record IsStored {P : Type 0} (table : List (Stored P)) (level : ℕ) (w : World P) : Type 0 where
  pub at : Stored P
  pub within : In at table
  pub soon : at.level ≤ level
  pub keys : HaveEqualKeys w at.world

-- each stored world is a good one, and each move from it leads to a world that is stored a level later at most
pub record IsClosedTable {P M : Type 0} (caps : Caps) (parties : Parties P M) (good : World P → Bool)
    (table : List (Stored P)) : Type 0 where
  pub worlds : (x : Stored P) → In x table → IsGoodWorld caps good x.world
  pub closed : (x : Stored P) (w' : World P) (move : M) (reply : Reply) → In x table
      → world_after parties x.world move reply ≡ Some w' → IsStored table (x.level + 1) w'

-- the world w is stored, at this level or before, and from there the move tells the same as it does from w to w'
pub record IsInTable {P M : Type 0} (caps : Caps) (parties : Parties P M) (good : World P → Bool)
    (table : List (Stored P)) (level : ℕ) (w w' : World P) (move : M) (reply : Reply) : Type 0 where
  pub stored : IsStored table level w
  pub same : HasSameMove caps parties good w w' stored.at.world move reply

-- ---- searches

-- the move from a stored world was tried with some reply that takes an entry from the same queue, if it takes one: it
-- led to a world that is stored a level later at most
pub record WasTried {P M : Type 0} (parties : Parties P M) (table : List (Stored P)) (x : Stored P) (move : M)
    (reply : Reply) : Type 0 where
  pub reply' : Reply
  pub world' : World P
  pub leads : world_after parties x.world move reply' ≡ Some world'
  pub queues : TakeAlike reply reply'
  pub stored : IsStored table (x.level + 1) world'

-- each stored world is a good one, and each move from it that may come was tried
pub record IsSearchedTable {P M : Type 0} (caps : Caps) (parties : Parties P M) (good : World P → Bool)
    (table : List (Stored P)) : Type 0 where
  pub worlds : (x : Stored P) → In x table → IsGoodWorld caps good x.world
  pub tried : (x : Stored P) (w' : World P) (move : M) (reply : Reply) → In x table
      → world_after parties x.world move reply ≡ Some w' → WasTried parties table x move reply
