-- Several devices that are followed together, since each may be the one that was seen.
use Rattle.dsa_book.specs.declared.answer.Reply.TheVariants as reply
use Rattle.dsa_book.specs.declared.event.Event.TheVariants as event
use Rattle.std.specs.Prelude.{◌≡◌, ℕ, ◌+◌, true, List, [], ◌∷◌, ◌++◌, length, map, filter_map, string_bytes, take}
use Rattle.std.specs.Prelude.{Option, Some, None, Result, ◌⊎◌}
use Rattle.serde_json.specs.Data.{Data}
use Rattle.dsa_base.specs.Lists.{In}
use Rattle.dsa_regs.specs.{declared.{Caps.{Caps}}, Config.{queue_at}}
use Rattle.dsa_store.specs.{declared.entry.Entry.{Entry}, Content.{HeldEntry, chain}}
use Rattle.dsa_book.specs.declared.{answer.{Reply.{Reply}, DispatchAnswer.TheVariants.{Taken}}}
use Rattle.dsa_book.specs.declared.{event.{Event.{Event}, Step.{Step}}}
use Rattle.dsa_book.specs.{State.{Work, phase_at}, Work.{in_progress, members, note_at}}
use Rattle.dsa_answers.specs.Alike.{AreStatesAlike}
use Rattle.dsa_device.specs.Running.{Running, running_at_first}
use Rattle.dsa_scenario.specs.declared.actions.BadWord.{BadWord}
use Rattle.dsa_scenario.specs.declared.{actions.Action.{Action, TheVariants.{Ask}}}
use Rattle.dsa_scenario.specs.declared.{run.Record.{Record, TheVariants.{Stepped, Refused}}}
use Rattle.dsa_scenario.specs.Run.{event_of, answered_by, Leads}
use Rattle.dsa_explain_lines.specs.Parts.{part_of}
use Rattle.dsa_conform.specs.declared.{way.Way.{Way}, told.Told.{Told}}
use Rattle.dsa_conform.specs.Against.{fact_against}
use Rattle.dsa_conform.specs.Allowed.{IsAllowed, AreAllowed, NoneShows}
use Rattle.dsa_conform.specs.Run.{AreRead, IsDifference, IsFollowedTo}
use Rattle.dsa_conform.specs.Seen.{Seen, shows}

-- ---- devices that answer alike from now on

-- the devices have the same parts and as much room left, and their states differ in the cells of
-- entries and in fates alone (profile)
pub record AreDevicesAlike (d e : Running) : Type 0 where
  pub caps : d.caps ≡ e.caps
  pub capacity : d.capacity ≡ e.capacity
  pub count : length d.history ≡ length e.history
  pub states : AreStatesAlike d.state e.state

-- the entries in order, without their cells
abbrev pub entries_only : List HeldEntry → List Entry
entries_only pairs = map (λ pair. pair.1) pairs

-- the queue is configured alike and in the same phase, and has the same entries waiting
pub record IsQueueAlike (w v : Work) (q : ℕ) : Type 0 where
  pub config : queue_at w.setup.configs q ≡ queue_at v.setup.configs q
  pub phase : phase_at w.setup q ≡ phase_at v.setup q
  pub waiting : entries_only (chain w.content q) ≡ entries_only (chain v.content q)

-- the engine has the same note, and the same entries in progress and members
pub record IsEngineAlike (w v : Work) (e : ℕ) : Type 0 where
  pub note : note_at w e ≡ note_at v e
  pub in_progress : entries_only (in_progress w e) ≡ entries_only (in_progress v e)
  pub members : entries_only (members w e) ≡ entries_only (members v e)

-- ---- queues that entries are taken from

-- the queue that the answer tells an entry to be taken from
abbrev pub queue_of_reply : Reply → Option ℕ
queue_of_reply (reply.Dispatch (Taken ticket queue)) = Some queue
queue_of_reply _ = None

abbrev pub queue_of_record : Record → Option ℕ
queue_of_record (Stepped step) = queue_of_reply step.reply
queue_of_record (Refused fault) = None

-- the queues that entries were taken from, in turn
abbrev pub queues_taken : List Step → List ℕ
queues_taken steps = filter_map (λ step. queue_of_reply step.reply) steps

-- all answers that are allowed and show what was seen tell of the same queue, or of none
abbrev pub IsOneWay : Running → Result Event BadWord → Seen → Type 0
IsOneWay now asked seen = (first second : Record) → IsAllowed now asked first → IsAllowed now asked second
    → shows seen first ≡ true → shows seen second ≡ true → queue_of_record first ≡ queue_of_record second

-- an answer that is allowed and shows what was seen tells of this queue
abbrev pub IsTakenAsSeen : Running → Result Event BadWord → Seen → ℕ → Type 0
IsTakenAsSeen now asked seen queue = (entry : Record) × IsAllowed now asked entry × (shows seen entry ≡ true)
    × (queue_of_record entry ≡ Some queue)

-- each answer that is allowed and shows what was seen tells of one of these queues, and each of these is told of;
-- where there are none, all tell of the same queue, or of none
abbrev pub IsFork : Running → Result Event BadWord → Seen → List ℕ → Type 0
IsFork now asked seen [] = IsOneWay now asked seen
IsFork now asked seen queues = ((entry : Record) → IsAllowed now asked entry → shows seen entry ≡ true
    → (queue : ℕ) × In queue queues × (queue_of_record entry ≡ Some queue))
    × ((queue : ℕ) → In queue queues → IsTakenAsSeen now asked seen queue)

-- ---- one step of several devices

-- the device is alike one of these
abbrev pub IsAmong : Running → List Way → Type 0
IsAmong now ways = (way : Way) × In way ways × AreDevicesAlike now way.device

-- however a device goes on by an answer that shows what was seen, it is then alike one of these
abbrev pub Covers : Running → Result Event BadWord → Seen → List Way → Type 0
Covers now asked seen ways = (entry : Record) → (after : Running) → answered_by entry ≡ asked
    → Leads now entry after → shows seen entry ≡ true → IsAmong after ways

-- what a device allows and why, and none of it shows what was seen, against which this fact speaks
pub record IsTold (now : Running) (asked : Result Event BadWord) (seen : Seen) (told : Told) : Type 0 where
  pub why : string_bytes told.why ≡ part_of now asked
  pub against : string_bytes told.against ≡ fact_against now asked seen
  pub all : AreAllowed now asked told.allowed.items
  pub some : Record
  pub is_some : IsAllowed now asked some
  pub none : NoneShows now asked seen

-- each of these has come by these steps and answered as was seen
abbrev pub AllFollow : Caps → ℕ → List (Action × Seen) → ℕ → List Way → Type 0
AllFollow caps capacity done number ways =
    (way : Way) → In way ways → IsFollowedTo caps capacity done number way.device way.tickets.items

-- ---- runs, record by record

-- one step of a run: it answers what is asked, and shows what was seen
pub record IsStepOfRun (before : List Record) (d : Running) (here : Action × Seen) (entry : Record) (after : Running)
    : Type 0 where
  pub answers : answered_by entry ≡ event_of before here.0
  pub leads : Leads d entry after
  pub shown : shows here.1 entry ≡ true

-- behind those before, a device goes on by these records to where it then stands
abbrev pub RunFrom : List Record → Running → List (Action × Seen) → List Record → Running → Type 0
RunFrom before d [] [] after = d ≡ after
RunFrom before d [] (r ∷ rs) after = ⊥
RunFrom before d (o ∷ os) [] after = ⊥
RunFrom before d (o ∷ os) (r ∷ rs) after =
    (m : Running) × IsStepOfRun before d o r m × RunFrom (before ++ r ∷ []) m os rs after

-- wherever a run may come to that shows what was seen of these steps, one of the devices is alike
abbrev pub AllAreAmong : Caps → ℕ → List (Action × Seen) → List Way → Type 0
AllAreAmong caps capacity done ways = (records : List Record) → (after : Running)
    → RunFrom [] (running_at_first caps capacity) done records after → IsAmong after ways

-- there is one
abbrev pub HasOne : List Way → Type 0
HasOne ways = (way : Way) × In way ways

-- the end of an entry is asked by its name, as documents do
abbrev pub IsNamedEnd : Action → Type 0
IsNamedEnd (Ask (event.Finish engine ticket outcome)) = ⊥
IsNamedEnd _ = Unit {0}

abbrev pub AreNamedEnds : List (Action × Seen) → Type 0
AreNamedEnds [] = Unit {0}
AreNamedEnds (o ∷ os) = IsNamedEnd o.0 × AreNamedEnds os

-- ---- what the calls come to

-- the steps of a document are read, and this is what is asked at the step of this number and was seen of it
pub record IsReadTo (steps : List Data) (observed : List (Action × Seen)) (number : ℕ) (here : Action × Seen)
    : Type 0 where
  pub read : AreRead steps observed
  pub more : take (number + 1) observed ≡ take number observed ++ here ∷ []
  pub named : AreNamedEnds (take number observed)
  pub is_named : IsNamedEnd here.0

-- a device that has come so far, one step later: all that may come of the step is alike, or it tells what it allows
abbrev pub IsOn : Running → Result Event BadWord → Seen → Way → Option Told → Type 0
IsOn now asked seen new None = Covers now asked seen (new ∷ []) × ((entry : Record) × IsAllowed now asked entry)
IsOn now asked seen new (Some told) = IsTold now asked seen told

-- where it goes on, it has come by that step too
abbrev pub IsFollowedOn : Caps → ℕ → List (Action × Seen) → ℕ → Way → Option Told → Type 0
IsFollowedOn caps capacity done number new None =
    IsFollowedTo caps capacity done number new.device new.tickets.items
IsFollowedOn caps capacity done number new (Some told) = Unit {0}

-- the device has come by the first steps and answered as was seen, and it took from these queues in turn
pub record IsWayBy (caps : Caps) (capacity : ℕ) (steps : List Data) (count : ℕ) (choices : List ℕ) (way : Way)
    : Type 0 where
  pub follows : (observed : List (Action × Seen)) → AreRead steps observed
      → IsFollowedTo caps capacity (take count observed) count way.device way.tickets.items
  pub queues : queues_taken way.device.history ≡ choices

-- the device has been added, unless one was alike
pub record IsAdded (old : List Way) (way : Way) (new : List Way) : Type 0 where
  pub each : (other : Way) → In other new → In other old ⊎ (way ≡ other)
  pub all : (other : Way) → In other old → In other new
  pub here : IsAmong way.device new
  pub once : IsAmong way.device old → new ≡ old

-- for each queue a device that takes from it in this step has been added, unless one was alike
pub record AreAdded (caps : Caps) (capacity : ℕ) (steps : List Data) (number : ℕ) (choices queues : List ℕ)
    (old new : List Way) : Type 0 where
  pub each : (other : Way) → In other new → In other old
      ⊎ ((queue : ℕ) × IsWayBy caps capacity steps (number + 1) (choices ++ queue ∷ []) other)
  pub all : (other : Way) → In other old → In other new
  pub here : (queue : ℕ) → In queue queues → (way : Way)
      × IsWayBy caps capacity steps (number + 1) (choices ++ queue ∷ []) way × IsAmong way.device new

-- what has become of one device in a step: what may come of it is among those that go on, or it is told what it
-- allows
pub record IsGone (caps : Caps) (capacity : ℕ) (done : List (Action × Seen)) (here : Action × Seen) (number : ℕ)
    (now : Running) (asked : Result Event BadWord) (old : List Way) (before : List Told) (new : List Way)
    (after : List Told) : Type 0 where
  pub each : (other : Way) → In other new → In other old
      ⊎ IsFollowedTo caps capacity (done ++ here ∷ []) (number + 1) other.device other.tickets.items
  pub all : (other : Way) → In other old → In other new
  pub tolds : (told : Told) → In told after → In told before ⊎ IsTold now asked here.1 told
  pub kept : (told : Told) → In told before → In told after
  pub covers : Covers now asked here.1 new
  pub may : (entry : Record) × IsAllowed now asked entry
  pub some : HasOne new ⊎ ((told : Told) × In told after × IsTold now asked here.1 told)

abbrev pub IsGoneOn : Caps → ℕ → List Data → Action × Seen → ℕ → Way → List Way → List Told → List Way → List Told
    → Type 0
IsGoneOn caps capacity steps here number way old before new after = (observed : List (Action × Seen))
    → IsReadTo steps observed number here
    → (h : IsFollowedTo caps capacity (take number observed) number way.device way.tickets.items)
    → IsGone caps capacity (take number observed) here number way.device (event_of h.records here.0) old before
    new after

-- the same of one device among several that were followed
pub record IsOneGone (now : Running) (asked : Result Event BadWord) (seen : Seen) (new : List Way) (tolds : List Told)
    : Type 0 where
  pub covers : Covers now asked seen new
  pub may : (entry : Record) × IsAllowed now asked entry
  pub some : HasOne new ⊎ ((told : Told) × In told tolds × IsTold now asked seen told)

-- what has become of all
pub record AreGone (caps : Caps) (capacity : ℕ) (done : List (Action × Seen)) (here : Action × Seen) (number : ℕ)
    (old new : List Way) (tolds : List Told) : Type 0 where
  pub each : AllFollow caps capacity (done ++ here ∷ []) (number + 1) new
  pub told : (told : Told) → In told tolds → (way : Way) × In way old
      × ((h : IsFollowedTo caps capacity done number way.device way.tickets.items)
      × IsTold way.device (event_of h.records here.0) here.1 told)
  pub all : (way : Way) → In way old → (h : IsFollowedTo caps capacity done number way.device way.tickets.items)
      × IsOneGone way.device (event_of h.records here.0) here.1 new tolds

abbrev pub AreGoneOn : Caps → ℕ → List Data → Action × Seen → ℕ → List Way → List Way → List Told → Type 0
AreGoneOn caps capacity steps here number old new tolds = (observed : List (Action × Seen))
    → IsReadTo steps observed number here → AllFollow caps capacity (take number observed) number old
    → AreGone caps capacity (take number observed) here number old new tolds

-- the devices that may be the one that was seen, so far
pub record AreFollowed (caps : Caps) (capacity : ℕ) (done : List (Action × Seen)) (number : ℕ) (ways : List Way)
    : Type 0 where
  pub each : AllFollow caps capacity done number ways
  pub all : AllAreAmong caps capacity done ways
  pub some : HasOne ways

-- one step later: there are such, or the text tells of the difference
abbrev pub AreStepped : Caps → ℕ → List (Action × Seen) → Action × Seen → ℕ → List Way → Option (List ℕ) → Type 0
AreStepped caps capacity done here number ways None =
    AreFollowed caps capacity (done ++ here ∷ []) (number + 1) ways
AreStepped caps capacity done here number ways (Some text) = IsDifference caps capacity done here number text

abbrev pub AreOn : Caps → ℕ → List Data → Action × Seen → ℕ → List Way → List Way → Option (List ℕ) → Type 0
AreOn caps capacity steps here number old new differs = (observed : List (Action × Seen))
    → IsReadTo steps observed number here → AreFollowed caps capacity (take number observed) number old
    → AreStepped caps capacity (take number observed) here number new differs
