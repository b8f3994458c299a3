-- A walk while it is made, and rows of several walks.
use Rattle.std.specs.Prelude.{◌≡◌, ◌⊎◌, ℕ, ◌+◌, ◌^◌, ◌<◌, ◌≤◌, false, List, ◌∷◌, [], length, Some}
use Rattle.dsa_base.specs.Lists.{In}
use Rattle.dsa_book.specs.declared.answer.Reply.{Reply}
use Rattle.dsa_keys.specs.Parties.{World, Made, world_after}
use Rattle.dsa_parties.specs.declared.{places.Move.{Move}, script.Script.{Script}}
use Rattle.dsa_parties.specs.{Standing.{Standing}, Offers.{parties_of}}
use Rattle.dsa_explore.specs.declared.{found.Found.{Found}, stored.Try.{Try}, walked.Walked.{Walked}}
use Rattle.dsa_explore.specs.declared.sampling.Tally.{Tally}
use Rattle.dsa_explore.specs.declared.walking.Leads.{Leads, TheVariants.{Nowhere, Back, On, TooFar}}
use Rattle.dsa_explore.specs.{Asks.{ask_of}, Explored.{IsFound, MayCome}, Findings.{findings_of}, Keys.{world_bytes}}
use Rattle.dsa_explore.specs.{Ready.{is_filled, CannotMake, HasLabels}, Rows.{AddsRows}, Trying.{IsThere}}
use Rattle.dsa_explore.specs.Walked.{world_of}
use Rattle.dsa_explore.specs.Ways.{IsWay}
use Rattle.dsa_explore.specs.Search.{Space, IsStoredWorld, AreRows, IsTriedBy, queue_taken_from}
use Rattle.dsa_explore.specs.Sampling.{AreWalkSteps, StopsAt, AreWalks, HaveOneRowEach}

-- ---- one try

-- the try was made: it leads from w to w', and rows with all that it told and so many steps were added
pub record IsMadeTry (script : Script) (w : World Standing) (tried : Try) (w' : World Standing) (steps : ℕ)
    (old new : List Found) : Type 0 where
  pub reply : Reply
  pub leads : world_after (parties_of script) w tried.by reply ≡ Some w'
  pub fits : (q p : ℕ) → tried.queue ≡ Some q → queue_taken_from reply ≡ Some p → q ≡ p
  pub told : AddsRows steps (findings_of (ask_of script w.places tried.by) w w' reply) old new

-- the try was made on this device, which has labels for its names still
pub record IsTryOn (script : Script) (old : Walked) (tried : Try) (new : Walked) (steps : ℕ) (rows more : List Found)
    : Type 0 where
  pub made : IsMadeTry script (world_of old) tried (world_of new) steps rows more
  pub labels : HasLabels old → HasLabels new

-- it led to another key, and took an entry from the queue that this one names, or from none
pub record IsTryFurther (script : Script) (old : Walked) (tried taken : Try) (new : Walked) (steps : ℕ)
    (rows more : List Found) : Type 0 where
  pub on : IsTryOn script old tried new steps rows more
  pub other : world_bytes (world_of new) ≡ world_bytes (world_of old) → ⊥
  pub by : taken.by ≡ tried.by
  pub queue : queue_taken_from on.made.reply ≡ taken.queue

-- it cannot be made
pub record IsTryNowhere (script : Script) (old : Walked) (tried : Try) (rows more : List Found) : Type 0 where
  pub rows_are : more ≡ rows
  pub cannot : HasLabels old → is_filled old.machine.device ≡ false → CannotMake script (world_of old) tried

-- it led back to the same key
pub record IsTryBack (script : Script) (old : Walked) (tried : Try) (new : Walked) (steps : ℕ) (rows more : List Found)
    : Type 0 where
  pub on : IsTryOn script old tried new steps rows more
  pub same : world_bytes (world_of new) ≡ world_bytes (world_of old)

-- a key has more bytes than 1,048,576: that before it, or that after it
pub record IsTryTooFar (script : Script) (old : Walked) (tried : Try) (new : Walked) (steps : ℕ)
    (rows more : List Found) : Type 0 where
  pub long : ((more ≡ rows) × (2 ^ 20 < length (world_bytes (world_of old))))
      ⊎ (IsTryOn script old tried new steps rows more × (2 ^ 20 < length (world_bytes (world_of new))))

-- where the try led
abbrev pub HasLed : Script → Walked → Try → Walked → ℕ → List Found → List Found → Leads → Type 0
HasLed script old tried new steps rows more Nowhere = IsTryNowhere script old tried rows more
HasLed script old tried new steps rows more Back = IsTryBack script old tried new steps rows more
HasLed script old tried new steps rows more (On taken) = IsTryFurther script old tried taken new steps rows more
HasLed script old tried new steps rows more TooFar = IsTryTooFar script old tried new steps rows more

-- ---- one walk

-- a walk has come to this world, by this way, and each row may come with one step more than it has, or with fewer
pub record HasComeTo {P : Type 0} (space : Space P Move) (first : World P) (way : List Try) (rows : List Found)
    (last : World P) : Type 0 where
  pub stored : IsStoredWorld space first (record { level = length way; world = last })
  pub leads : IsWay space first way last
  pub moves : List (Made Move)
  pub count : length way ≡ length moves
  pub made : AreWalkSteps space rows 0 first moves last
  pub rows_are : AreRows space first (length way + 1) rows

-- a device stands where a walk has come to, and has labels for its names
pub record IsAtWalk (space : Space Standing Move) (first : World Standing) (way : List Try) (rows : List Found)
    (walked : Walked) : Type 0 where
  pub last : World Standing
  pub come : HasComeTo space first way rows last
  pub there : IsThere space (record { level = length way; world = last }) (world_of walked)
  pub labels : HasLabels walked

-- from the world to which it has come, all that takes this was tried: it leads back, and what it told is found
abbrev pub IsTriedBack : {P : Type 0} → Space P Move → List Found → ℕ → World P → Try → Type 0
IsTriedBack space rows steps last tried = IsTriedBy space.parties space.asks
    (record { level = steps; world = last } ∷ []) rows (steps + 1) last tried.by tried.queue

-- a walk has stopped
pub record HasStopped {P : Type 0} (space : Space P Move) (first : World P) (set_up : ℕ) (way : List Try)
    (rows : List Found) : Type 0 where
  pub last : World P
  pub come : HasComeTo space first way rows last
  pub stops : StopsAt space first set_up rows (length way) last

-- ---- several walks

-- each row is an old one or one of these, and for each of both there is one with its finding, and no more steps
pub record AreMerged (old more new : List Found) : Type 0 where
  pub each : (row : Found) → In row new → In row old ⊎ In row more
  pub kept : (row : Found) → In row old → IsFound new row.steps row.finding
  pub added : (row : Found) → In row more → IsFound new row.steps row.finding
  pub once : HaveOneRowEach old → HaveOneRowEach new

-- what was sampled so far
pub record IsTallyOf {P : Type 0} (space : Space P Move) (first : World P) (set_up : ℕ) (tally : Tally)
    : Type 0 where
  pub made : AreWalks space first set_up tally.rows.items tally.walks tally.steps tally.depth
  pub sound : (row : Found) → In row tally.rows.items → MayCome space.parties space.asks first row.steps row.finding
  pub soon : (row : Found) → In row tally.rows.items → row.steps ≤ tally.depth + 1
  pub once : HaveOneRowEach tally.rows.items
