-- The answers that the machine allows where a device stands.
use Rattle.dsa_book.specs.declared.answer.Reply.TheVariants as reply
use Rattle.dsa_book.specs.declared.event.Event.TheVariants as event
use Rattle.std.specs.Prelude.{◌≡◌, ◌<◌, ℕ, false, true, cond, List, [], ◌∷◌, map, filter_map, Option, None, ⊤}
use Rattle.std.specs.Prelude.{option_map, Result, Ok, All, Contains}
use Rattle.dsa_base.specs.Numbers.{numbers_below}
use Rattle.dsa_book.specs.declared.{event.Event.{Event}, answer.{Ticket.{Ticket}, Reply.{Reply}}}
use Rattle.dsa_book.specs.declared.answer.DispatchAnswer.TheVariants.{Taken}
use Rattle.dsa_book.specs.{State.{Work, ticket_of_entry}, Work.{qualifies, front_of}}
use Rattle.dsa_device.specs.Running.{Running}
use Rattle.dsa_scenario.specs.declared.actions.BadWord.{BadWord}
use Rattle.dsa_scenario.specs.declared.run.Record.{Record, TheVariants.{Stepped, Refused}}
use Rattle.dsa_scenario.specs.{Lines.{record_text}, Run.{answered_by, Leads}}
use Rattle.dsa_conform.specs.declared.following.Followed.{Followed, TheVariants.{Shown, Differs}}
use Rattle.dsa_conform.specs.Seen.{Seen, shows}

-- a device that stands so may answer this to what is asked of it (profile)
pub record IsAllowed (now : Running) (asked : Result Event BadWord) (entry : Record) : Type 0 where
  pub answers : answered_by entry ≡ asked
  pub after : Running
  pub leads : Leads now entry after

-- the queue that an entry is taken from, and of any other answer 0
abbrev pub queue_taken_by : Reply → ℕ
queue_taken_by (reply.Dispatch (Taken ticket queue)) = queue
queue_taken_by _ = 0

abbrev pub queue_taken : Record → ℕ
queue_taken (Stepped step) = queue_taken_by step.reply
queue_taken (Refused fault) = 0

-- each of these is taken from a queue with a higher number than those before it; of other answers there is one
abbrev pub IsAscending : List Record → Type 0
IsAscending [] = ⊤
IsAscending (entry ∷ entries) = All (λ later. queue_taken entry < queue_taken later) entries × IsAscending entries

-- each of these may be answered, and what may be answered has the text of one of them; where an entry may be
-- taken from more than one queue, these are told in ascending order, and else there is one answer (profile)
pub record AreAllowed (now : Running) (asked : Result Event BadWord) (allowed : List Record) : Type 0 where
  pub each : All (IsAllowed now asked) allowed
  pub all : (entry : Record) → IsAllowed now asked entry → Contains (map record_text allowed) (record_text entry)
  pub order : IsAscending allowed

-- no answer that is allowed shows what was seen (profile)
abbrev pub NoneShows : Running → Result Event BadWord → Seen → Type 0
NoneShows now asked seen = (entry : Record) → IsAllowed now asked entry → shows seen entry ≡ false

-- ---- what an engine may take

abbrev pub taken_from : ℕ → ℕ → Ticket → Record
taken_from e q ticket = Stepped (record { event = event.Dispatch e; reply = reply.Dispatch (Taken ticket q) })

-- the front of the queue is taken, where the engine may take it
abbrev pub offer : Work → ℕ → ℕ → Option Record
offer w e q = cond (qualifies w e q) (option_map (λ front. taken_from e q (ticket_of_entry front)) (front_of w q)) None

-- one answer for each queue that the engine may take from
abbrev pub offers : Work → ℕ → List Record
offers w e = filter_map (offer w e) (numbers_below w.setup.caps.queues)

-- ---- one step

-- an engine is not asked to take an entry
abbrev pub IsNoDispatch : Result Event BadWord → Type 0
IsNoDispatch (Ok (event.Dispatch e)) = ⊥
IsNoDispatch _ = ⊤

-- two answers that differ in nothing that is seen
pub record AreSeenAlike (first second : Record) : Type 0 where
  pub texts : record_text first ≡ record_text second
  pub shown : (seen : Seen) → shows seen first ≡ shows seen second

-- whatever may be answered looks the same
abbrev pub HasOneAnswer : Running → Result Event BadWord → Type 0
HasOneAnswer now asked = (first second : Record) → IsAllowed now asked first → IsAllowed now asked second
    → AreSeenAlike first second

-- the device has gone on by an answer that is allowed and shows what was seen, or none that is allowed shows it
abbrev pub IsFollowed : Running → Result Event BadWord → Seen → Running → Followed → Type 0
IsFollowed now asked seen new (Shown entry) =
    (answered_by entry ≡ asked) × Leads now entry new × (shows seen entry ≡ true)
IsFollowed now asked seen new (Differs allowed) =
    AreAllowed now asked allowed.items × NoneShows now asked seen × ((entry : Record) × IsAllowed now asked entry)

-- the device has gone on by an answer that is allowed, and that shows what was seen unless none does (profile)
pub record IsClosest (now : Running) (asked : Result Event BadWord) (seen : Seen) (new : Running) (entry : Record)
    : Type 0 where
  pub answers : answered_by entry ≡ asked
  pub leads : Leads now entry new
  pub best : shows seen entry ≡ false → NoneShows now asked seen
