-- Random walks: steps that lead on, chosen one after the other, from where the parties begin.
use Rattle.std.specs.Prelude.{◌≡◌, ℕ, ◌+◌, ◌%◌, ◌^◌, ◌≤◌, ◌==◌, max, Bool, false, cond, List, [], ◌∷◌, length, fold}
use Rattle.std.specs.Prelude.{sum}
use Rattle.std.specs.Prelude.{filter, Some, None, slice_get}
use Rattle.rand_xoshiro.specs.SplitMix64.{mix_u64}
use Rattle.dsa_base.specs.{Lists.{In}, Numbers.{numbers_below}}
use Rattle.dsa_regs.specs.declared.Caps.{Caps}
use Rattle.dsa_book.specs.declared.{event.Event.{Event}, answer.Reply.{Reply}}
use Rattle.dsa_keys.specs.Parties.{World, Made, HaveEqualKeys, world_after}
use Rattle.dsa_parties.specs.{declared.script.Script.{Script}, Standing.{Standing}, Offers.{parties_of}}
use Rattle.dsa_explore.specs.declared.{found.Found.{Found}, sampling.{Sampled.{Sampled}, Walks.{Walks}}}
use Rattle.dsa_explore.specs.{Asks.{ask_of}, Bounds.{CanReachLongKey}, Explored.{AskOf, IsFound, MayCome}}
use Rattle.dsa_explore.specs.{Findings.{findings_of}, Search.{Space}, Walked.{IsFirst, space_of}}

-- ---- which walks are made

-- the walk of this number is made (profile)
abbrev pub is_in_shard : Walks → ℕ → Bool
is_in_shard walks number = cond (walks.shards == 0) false (number % walks.shards == walks.shard)

-- the numbers of the walks that are made (profile)
abbrev pub walk_numbers : Walks → List ℕ
walk_numbers walks = filter (is_in_shard walks) (numbers_below walks.count)

-- the state of the generator with which the walk of this number begins (profile)
abbrev pub walk_state : ℕ → ℕ → ℕ
walk_state seed number = (mix_u64 (((mix_u64 seed).0 + number) % 2 ^ 64)).0

-- ---- one walk

-- all that the step tells is found, with so many steps at most
abbrev pub IsAllFound : {P M : Type 0} → AskOf P M → List Found → ℕ → World P → M → Reply → World P → Type 0
IsAllFound asks rows steps w move reply w' =
    (finding : _) → In finding (findings_of (asks w.places move) w w' reply) → IsFound rows steps finding

-- the step of this number of a walk: it leads to a world with another key, and all that it tells is found
pub record IsWalkStep {P M : Type 0} (space : Space P M) (rows : List Found) (steps : ℕ) (w : World P) (made : Made M)
    (w' : World P) : Type 0 where
  pub leads : world_after space.parties w made.move made.reply ≡ Some w'
  pub on : HaveEqualKeys w' w → ⊥
  pub told : IsAllFound space.asks rows steps w made.move made.reply w'

-- such steps lead from w to v, where so many were made before
abbrev pub AreWalkSteps : {P M : Type 0} → Space P M → List Found → ℕ → World P → List (Made M) → World P → Type 0
AreWalkSteps space rows before w [] v = w ≡ v
AreWalkSteps {P} space rows before w (made ∷ rest) v =
    (u : World P) × (IsWalkStep space rows (before + 1) w made u × AreWalkSteps space rows (before + 1) u rest v)

-- each step from the world leads back to its key, and all that it tells is found
pub record LeadsBackAlone {P M : Type 0} (space : Space P M) (rows : List Found) (steps : ℕ) (w : World P)
    : Type 0 where
  pub back : (w' : World P) (move : M) (reply : Reply) → world_after space.parties w move reply ≡ Some w'
      → HaveEqualKeys w' w
  pub told : (w' : World P) (move : M) (reply : Reply) → world_after space.parties w move reply ≡ Some w'
      → IsAllFound space.asks rows steps w move reply w'

-- why a walk of so many steps goes no further than this world: no step leads on from there; or a history is full with
-- the set-up and the walk; or with one step more a key may have more bytes than 1,048,576
pub data StopsAt {P M : Type 0} (space : Space P M) (first : World P) (set_up : ℕ) (rows : List Found) (steps : ℕ)
    (last : World P) : Type 0 where
  stops_at_end : LeadsBackAlone space rows (steps + 1) last → StopsAt space first set_up rows steps last
  stops_at_full_history : 2 ^ 20 ≤ set_up + steps → StopsAt space first set_up rows steps last
  stops_at_long_key : CanReachLongKey space.parties space.bytes_of first (2 ^ 20) (steps + 1)
      → StopsAt space first set_up rows steps last

-- a walk of so many steps from the first world, which goes as far as it can
pub record IsRandomWalk {P M : Type 0} (space : Space P M) (first : World P) (set_up : ℕ) (rows : List Found)
    (steps : ℕ) : Type 0 where
  pub moves : List (Made M)
  pub last : World P
  pub made : AreWalkSteps space rows 0 first moves last
  pub count : steps ≡ length moves
  pub stops : StopsAt space first set_up rows steps last

-- ---- all walks

-- so many walks, with so many steps in all, and so many at most
pub record AreWalks {P M : Type 0} (space : Space P M) (first : World P) (set_up : ℕ) (rows : List Found)
    (count steps depth : ℕ) : Type 0 where
  pub lengths : List ℕ
  pub count_is : length lengths ≡ count
  pub each : (n : ℕ) → In n lengths → IsRandomWalk space first set_up rows n
  pub in_all : steps ≡ sum lengths
  pub at_most : depth ≡ fold max 0 lengths

-- no two rows have one finding
abbrev pub HaveOneRowEach : List Found → Type 0
HaveOneRowEach rows = (i j : ℕ) (row other : Found) → slice_get rows i ≡ Some row → slice_get rows j ≡ Some other
    → row.finding ≡ other.finding → i ≡ j

-- where the set-up led to, these walks were made. What they told is found, with the fewest steps that one of them took;
-- each row may come as it says. Nothing is said of what else may come
pub record IsSampled (caps : Caps) (script : Script) (events : List Event) (walks : Walks) (sampled : Sampled)
    : Type 0 where
  pub first : World Standing
  pub begun : IsFirst caps script events first
  pub count : sampled.walks ≡ length (walk_numbers walks)
  pub made : AreWalks (space_of caps script) first (length events) sampled.explored.rows.items sampled.walks
      sampled.explored.tried sampled.explored.depth
  pub sound : (row : Found) → In row sampled.explored.rows.items
      → MayCome (parties_of script) (ask_of script) first row.steps row.finding
  pub soon : (row : Found) → In row sampled.explored.rows.items → row.steps ≤ sampled.explored.depth + 1
  pub once : HaveOneRowEach sampled.explored.rows.items
  pub no_states : sampled.explored.states ≡ 0
  pub no_ends : sampled.explored.ends ≡ None
  pub is_complete : sampled.explored.is_complete ≡ false
