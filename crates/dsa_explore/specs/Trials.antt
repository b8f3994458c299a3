-- What came of the tries from a stored world, and a search that notes it.
use Rattle.std.specs.Prelude.{◌≡◌, ◌⊎◌, ℕ, ◌+◌, ◌^◌, ◌<◌, ◌≤◌, List, [], length, Some, IfNone, IfSome, slice_get}
use Rattle.dsa_base.specs.Lists.{In}
use Rattle.dsa_book.specs.declared.answer.Reply.{Reply}
use Rattle.dsa_keys.specs.Parties.{World, Stored, world_after}
use Rattle.dsa_parties.specs.declared.places.Move.{Move}
use Rattle.dsa_explore.specs.declared.{halting.Halt.{Halt, TheVariants.{States, KeyBytes, Steps, Lost}}}
use Rattle.dsa_explore.specs.declared.{stored.{Search.{Search}, Try.{Try}}, trials.{Trial.{Trial}, Expansion.{Expansion}}}
use Rattle.dsa_explore.specs.{Findings.{findings_of}, Rows.{AddsRows}, Search.{Space, IsExpanded, queue_taken_from}}
use Rattle.dsa_explore.specs.{Trying.{IsSearch, IsThere}, Ends.{LeadsNowhere}}

-- the try was made from a world with the key of the stored one: the trial has what its step told, the queue that it
-- took from, and the key that it led to
pub record IsTrial {P : Type 0} (space : Space P Move) (x : Stored P) (trial : Trial) : Type 0 where
  pub from : World P
  pub to : World P
  pub reply : Reply
  pub there : IsThere space x from
  pub leads : world_after space.parties from trial.tried.by reply ≡ Some to
  pub fits : (q p : ℕ) → trial.tried.queue ≡ Some q → queue_taken_from reply ≡ Some p → q ≡ p
  pub by : trial.taken.by ≡ trial.tried.by
  pub queue : queue_taken_from reply ≡ trial.taken.queue
  pub told : AddsRows 0 (findings_of (space.asks from.places trial.tried.by) from to reply) [] trial.rows.items
  pub key : trial.key.items ≡ space.bytes_of to

-- one of the trials is that of this try
pub record HasTrial (trials : List Trial) (try : Try) : Type 0 where
  pub trial : Trial
  pub within : In trial trials
  pub is : trial.tried ≡ try

-- each of these tries has a trial, or leads nowhere
abbrev pub AreMadeFrom : {P : Type 0} → Space P Move → Stored P → List Try → List Trial → Type 0
AreMadeFrom space x tries trials = (try : Try) → In try tries → HasTrial trials try ⊎ LeadsNowhere space x try

-- each step from the world that may come has a trial
abbrev pub AreAllFrom : {P : Type 0} → Space P Move → World P → List Trial → Type 0
AreAllFrom {P} space w trials = (v : World P) (move : Move) (reply : Reply)
    → world_after space.parties w move reply ≡ Some v
    → HasTrial trials (record { by = move; queue = queue_taken_from reply })

-- a step leads from the stored world to one whose key has more bytes than these
pub record LeadsTooFar {P : Type 0} (space : Space P Move) (x : Stored P) (width : ℕ) : Type 0 where
  pub from : World P
  pub to : World P
  pub move : Move
  pub reply : Reply
  pub there : IsThere space x from
  pub leads : world_after space.parties from move reply ≡ Some to
  pub long : width < length (space.bytes_of to)

-- why no more tries are made from the stored world, after a set-up of so many events: a key has more bytes than these,
-- or a history has no room
abbrev pub IsHaltAt : {P : Type 0} → Space P Move → ℕ → ℕ → Stored P → Halt → Type 0
IsHaltAt space set_up width x KeyBytes = LeadsTooFar space x width
IsHaltAt space set_up width x Steps = 2 ^ 20 ≤ set_up + x.level
IsHaltAt space set_up width x States = ⊥
IsHaltAt space set_up width x Lost = ⊥

-- these tries were made from the stored world, all of them or as far as a bound lets
pub record AreTrials {P : Type 0} (space : Space P Move) (set_up width : ℕ) (x : Stored P) (tries : List Try)
    (expansion : Expansion) : Type 0 where
  pub each : (trial : Trial) → In trial expansion.trials.items → IsTrial space x trial
  pub made : IfNone expansion.halted (AreMadeFrom space x tries expansion.trials.items)
  pub halts : IfSome expansion.halted (IsHaltAt space set_up width x)

-- so were all that may come
pub record IsWholeExpansion {P : Type 0} (space : Space P Move) (set_up width : ℕ) (x : Stored P)
    (expansion : Expansion) : Type 0 where
  pub each : (trial : Trial) → In trial expansion.trials.items → IsTrial space x trial
  pub all : IfNone expansion.halted (AreAllFrom space x.world expansion.trials.items)
  pub halts : IfSome expansion.halted (IsHaltAt space set_up width x)

-- these are the expansions of the stored worlds from this number on
abbrev pub AreExpansions : {P : Type 0} → Space P Move → ℕ → ℕ → List (Stored P) → ℕ → List Expansion → Type 0
AreExpansions {P} space set_up width table from expansions = (i : ℕ) (expansion : Expansion) (x : Stored P)
    → slice_get expansions i ≡ Some expansion → slice_get table (from + i) ≡ Some x
    → IsWholeExpansion space set_up width x expansion

-- the worlds below this number were expanded, and those of the table are stored still
pub record IsAhead {P : Type 0} (space : Space P Move) (first : World P) (table : List (Stored P)) (search : Search)
    (number : ℕ) : Type 0 where
  pub more : List (Stored P)
  pub is_search : IsSearch space first search more
  pub worlds : (i : ℕ) (y : Stored P) → slice_get table i ≡ Some y → slice_get more i ≡ Some y
  pub expanded : (i : ℕ) (x : Stored P) → i < number → slice_get more i ≡ Some x
      → IsExpanded space.parties space.asks more search.rows.items (x.level + 1) x.world
  pub front : (x : Stored P) → slice_get more number ≡ Some x → search.front ≤ x.level + 1
  pub behind : (i : ℕ) (x : Stored P) → i < number → slice_get more i ≡ Some x → x.level < search.front
