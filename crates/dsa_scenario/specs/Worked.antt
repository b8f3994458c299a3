-- JSON values, step objects and records that the worked rows speak of.
use Rattle.dsa_book.specs.declared.answer.Reply.TheVariants as reply
use Rattle.dsa_book.specs.declared.event.Event.TheVariants as event
use Rattle.std.specs.Prelude.{ℕ, ◌-◌, ◌^◌, ◌++◌, ◌&&◌, negsuc, Bool, true, false, not, List, [], ◌∷◌, filter, take}
use Rattle.std.specs.Prelude.{codes, bytes_eq, Option, None, is_some, is_none, option_and_then}
use Rattle.std.specs.Prelude.{⊤}
use Rattle.std.specs.{List.{list_all}, Fmt.{digits}}
use Rattle.serde_json.specs.Data.{unsigned, negative, Data, null, boolean, number, string, array, object, no_items}
use Rattle.serde_json.specs.Data.{item, Members, no_members, member}
use Rattle.serde_json.specs.Read.{read}
use Rattle.dsa_desc.specs.declared.{Descriptor.{Descriptor}, Outcome.TheVariants.{Success}}
use Rattle.dsa_regs.specs.declared.{Caps.{Caps}, QueueConfig.{QueueConfig}, GroupConfig.{GroupConfig}}
use Rattle.dsa_regs.specs.Worked.{shared_queue, smallest}
use Rattle.dsa_regs.specs.declared.Command.TheVariants.{EnableDevice, EnableWq}
use Rattle.dsa_regs.specs.declared.Fault.TheVariants.{BadCommand}
use Rattle.dsa_book.specs.declared.answer.{Ticket.{Ticket}, Reply.{Reply}, SubmitAnswer.TheVariants.{Accepted}}
use Rattle.dsa_book.specs.declared.answer.{DispatchAnswer.TheVariants.{Taken}, FetchAnswer.TheVariants.{Fetched}}
use Rattle.dsa_book.specs.declared.answer.{FinishAnswer.TheVariants.{Done}, IssueAnswer.TheVariants.{Ended}}
use Rattle.dsa_book.specs.declared.answer.{PollAnswer.TheVariants.{Full, Nothing}, WriteAnswer.TheVariants.{Written}}
use Rattle.dsa_book.specs.declared.event.{Event.{Event}, Kind.TheVariants.{Enqcmd, Movdir64b}}
use Rattle.dsa_book.specs.declared.event.Portal.TheVariants.{Limited}
use Rattle.dsa_book.specs.declared.fate.{Fate.{Fate}, FateRow.{FateRow}}
use Rattle.dsa_device.specs.Running.{Running, running_at_first}
use Rattle.dsa_scenario.specs.declared.actions.{Action.{Action, TheVariants.{Ask, Finish, Refuse}}, BadWord.{BadWord}}
use Rattle.dsa_scenario.specs.declared.run.Record.{Record, TheVariants.{Stepped, Refused}}
use Rattle.dsa_scenario.specs.{Fields.{whole_of}, Steps.{Visit, visits}}

-- ---- JSON

-- the whole number n
abbrev pub whole : ℕ → Data
whole n = number (unsigned n)

-- keys with their values
abbrev pub Fields : Type 0
Fields = List (List ℕ × Data)

abbrev pub members_of : Fields → Members
members_of [] = no_members
members_of (field ∷ fields) = member field.0 field.1 (members_of fields)

-- the object with these fields
abbrev pub object_of : Fields → Data
object_of fields = object (members_of fields)

-- an array of one value
abbrev pub array_of_one : Data → Data
array_of_one value = array (item value no_items)

-- all fields but that at the key
abbrev pub fields_without : List ℕ → Fields → Fields
fields_without key fields = filter (λ field. not (bytes_eq field.0 key)) fields

-- the object with another value at the key
abbrev pub changed : List ℕ → Data → Fields → Data
changed key value fields = object_of ((key, value) ∷ fields_without key fields)

-- values of each kind, those of a text that reads like another kind among them
abbrev pub wholes : List Data
wholes = whole 0 ∷ whole 1 ∷ []

abbrev pub truths : List Data
truths = boolean true ∷ boolean false ∷ []

abbrev pub texts : List Data
texts = string [] ∷ string (codes "1") ∷ string (codes "true") ∷ []

abbrev pub others : List Data
others =
    null ∷ number (negative (negsuc 0)) ∷ array no_items ∷ array_of_one (whole 1) ∷ array_of_one (boolean true)
    ∷ object no_members ∷ []

-- ---- readings of an object with these fields

module _ {A : Type 0} (read : Data → Option A) (fields : Fields) where
  -- it has to have each of them
  abbrev pub needs_each : Bool
  needs_each = list_all (λ field. is_none (read (object_of (fields_without field.0 fields)))) fields

  -- it may have any of these values at the key
  abbrev pub takes : List ℕ → List Data → Bool
  takes key values = list_all (λ value. is_some (read (changed key value fields))) values

  -- it may have none of these values at the key
  abbrev pub refuses : List ℕ → List Data → Bool
  refuses key values = list_all (λ value. is_none (read (changed key value fields))) values

  -- at each of these keys stands a whole number below the limit
  abbrev pub are_below : ℕ → List (List ℕ) → Bool
  are_below limit keys =
      list_all (λ key. takes key (whole 0 ∷ whole (limit - 1) ∷ [])
      && refuses key (whole limit ∷ truths ++ texts ++ others)) keys

  -- at the key stands a truth value
  abbrev pub is_truth : List ℕ → Bool
  is_truth key = takes key truths && refuses key (wholes ++ texts ++ others)

  -- at the key stands a text, of which this is one
  abbrev pub is_text : List ℕ → List ℕ → Bool
  is_text text key = takes key (string text ∷ []) && refuses key (wholes ++ truths ++ others)

-- ---- objects of a document, with another number in each field

abbrev pub some_caps : Fields
some_caps =
    (codes "queues", whole 1) ∷ (codes "groups", whole 2) ∷ (codes "engines", whole 3) ∷
    (codes "total_size", whole 4) ∷ (codes "read_buffers", whole 5) ∷ (codes "slots", whole 6) ∷
    (codes "max_batch_shift", whole 7) ∷ (codes "max_xfer_shift", whole 0) ∷ []

-- what they say
abbrev pub caps_in_fields : Caps
caps_in_fields =
    record smallest { groups = 2; engines = 3; total_size = 4; read_buffers = 5; slots = 6; max_batch_shift = 7 }

abbrev pub some_document : Fields
some_document =
    (codes "caps", object_of some_caps) ∷
    (codes "capacity", whole 9) ∷
    (codes "steps", array_of_one (whole 1)) ∷ []

-- a step object of this kind, with these further fields
abbrev pub step_of_kind : List ℕ → Fields → Fields
step_of_kind kind fields = (codes "do", string kind) ∷ fields

abbrev pub queue_step : Fields
queue_step = step_of_kind (codes "queue") (
    (codes "queue", whole 1) ∷ (codes "size", whole 2) ∷ (codes "threshold", whole 6) ∷
    (codes "dedicated", boolean true) ∷ (codes "priority", whole 4) ∷ (codes "pasid", whole 5) ∷
    (codes "batch", whole 3) ∷ (codes "xfer", whole 7) ∷ [])

-- what it writes
abbrev pub queue_in_fields : QueueConfig
queue_in_fields =
    record shared_queue { size = 2; threshold = 6; dedicated = true; priority = 4; pasid = 5; max_xfer_shift = 7 }

abbrev pub group_step : Fields
group_step = step_of_kind (codes "group") (
    (codes "group", whole 1) ∷ (codes "queues", whole 2) ∷ (codes "engines", whole 3) ∷
    (codes "reserved", whole 4) ∷ (codes "allowed", whole 5) ∷ [])

-- the operation of a Fill, and no more
abbrev pub fill_text : List ℕ
fill_text = codes "0000000000000004"

-- what that text says
abbrev pub fill : Descriptor
fill = record { pasid = 0; flags = 0; op = 4; size = 0 }

abbrev pub enqcmd_step : Fields
enqcmd_step = step_of_kind (codes "enqcmd") (
    (codes "client", whole 1) ∷ (codes "queue", whole 2) ∷ (codes "limited", boolean true) ∷
    (codes "pasid", whole 3) ∷ (codes "desc", string fill_text) ∷ [])

abbrev pub movdir_step : Fields
movdir_step = step_of_kind (codes "movdir") (
    (codes "client", whole 1) ∷ (codes "queue", whole 2) ∷ (codes "limited", boolean false) ∷
    (codes "desc", string fill_text) ∷ [])

abbrev pub dispatch_step : Fields
dispatch_step = step_of_kind (codes "dispatch") ((codes "engine", whole 1) ∷ [])

abbrev pub fetch_step : Fields
fetch_step = step_of_kind (codes "fetch") ((codes "engine", whole 1) ∷ (codes "desc", string fill_text) ∷ [])

abbrev pub start_step : Fields
start_step = step_of_kind (codes "start") ((codes "engine", whole 1) ∷ [])

abbrev pub finish_step : Fields
finish_step = step_of_kind (codes "finish") (
    (codes "engine", whole 1) ∷ (codes "name", whole 2) ∷ (codes "fault", boolean true) ∷ [])

-- Enable WQ of queue 2
abbrev pub command_step : Fields
command_step = step_of_kind (codes "command") ((codes "word", whole 0x60_0002) ∷ [])

abbrev pub poll_step : Fields
poll_step = step_of_kind (codes "poll") []

abbrev pub clear_step : Fields
clear_step = step_of_kind (codes "clear") []

-- ---- documents as texts

-- a device with as little as there may be
abbrev pub smallest_caps : Caps
smallest_caps = smallest

-- no device has these
abbrev pub no_caps : Caps
no_caps = record smallest_caps { queues = 0 }

-- the least device, with these fates
abbrev pub running_with_fates : List FateRow → Running
running_with_fates fates =
    let first = running_at_first smallest_caps 9 in
    record first { state = record first.state { work = record first.state.work { fates = fates } } }

abbrev pub caps_text : List ℕ → List ℕ
caps_text queues =
    codes "{\"queues\":" ++ queues ++ codes ",\"groups\":1,\"engines\":1,\"total_size\":1,\"read_buffers\":1,"
    ++ codes "\"slots\":1,\"max_batch_shift\":1,\"max_xfer_shift\":0}"

abbrev pub smallest_caps_text : List ℕ
smallest_caps_text = caps_text (codes "1")

-- no device has these
abbrev pub no_caps_text : List ℕ
no_caps_text = caps_text (codes "0")

abbrev pub document_text : List ℕ → List ℕ → List ℕ → List ℕ
document_text caps capacity steps =
    codes "{\"caps\":" ++ caps ++ codes ",\"capacity\":" ++ capacity ++ codes ",\"steps\":[" ++ steps ++ codes "]}"

-- a document of this capacity without a step
abbrev pub stepless_text : List ℕ → List ℕ
stepless_text capacity = document_text smallest_caps_text capacity []

-- a document of one step, which polls
abbrev pub poll_text : List ℕ
poll_text = document_text smallest_caps_text (codes "9") (codes "{\"do\":\"poll\"}")

-- the number of 8 bits at the key `n` of a JSON text
abbrev pub read_number : List ℕ → Option ℕ
read_number text = option_and_then (whole_of (2 ^ 8) (codes "n")) (read text)

-- ---- records

-- the ticket of this cell and name
abbrev pub record_ticket : ℕ → ℕ → Ticket
record_ticket cell name = record { cell = record { 0 = cell }; name = name }

-- an event, and what was answered
abbrev pub stepped : Event → Reply → Record
stepped event reply = Stepped (record { event = event; reply = reply })

-- a submission was accepted under this ticket
abbrev pub accepted : Ticket → Record
accepted record_ticket = stepped (event.Submit 0 0 Limited Movdir64b fill) (reply.Submit (Accepted record_ticket))

-- a poll, to which there was nothing to tell
abbrev pub polled : List Record
polled = stepped event.Poll (reply.Poll Nothing) ∷ []

-- a member was fetched under this ticket
abbrev pub record_of_a_fetch : Ticket → Record
record_of_a_fetch record_ticket = stepped (event.Fetch 0 fill) (reply.Fetch (Fetched record_ticket))

-- the fate of a name that was submitted by itself
abbrev pub fate : ℕ → Fate → FateRow
fate name ended = record { name = name; parent = None; fate = ended }

-- ---- lines

-- what a row unfolds to compute the digits of a number
unfoldable pub digits_on_literals : ⊤
unfolding digits
digits_on_literals = tt

-- ---- a run of one submission on a device of one engine, which fills the history

abbrev pub caps_of_a_run : Caps
caps_of_a_run =
    record smallest { total_size = 16; read_buffers = 32; slots = 4; max_batch_shift = 3; max_xfer_shift = 20 }

abbrev pub queue_of_a_run : QueueConfig
queue_of_a_run = record shared_queue { size = 16; threshold = 8 }

abbrev pub group_of_a_run : GroupConfig
group_of_a_run = record { queues = 1; engines = 1; reserved = 0; allowed = 32 }

-- a Move of 4096 bytes, under PASID 1
abbrev pub submission_of_a_run : Event
submission_of_a_run =
    event.Submit 0 0 Limited (Enqcmd 1) (record { pasid = 0; flags = 0; op = 3; size = 4096 })

-- a word that is no command
abbrev pub bad_word : ℕ → BadWord
bad_word word = record { word = word; fault = BadCommand }

-- the word 0, which is none
abbrev pub no_command : BadWord
no_command = bad_word 0

abbrev pub actions_of_a_run : List Action
actions_of_a_run =
    Ask (event.WriteQueue 0 queue_of_a_run) ∷
    Ask (event.WriteGroup 0 group_of_a_run) ∷
    Ask (event.Issue EnableDevice) ∷
    Ask (event.Issue (EnableWq 0)) ∷
    Refuse no_command ∷
    Ask submission_of_a_run ∷
    Ask (event.Dispatch 0) ∷
    Finish 0 0 Success ∷
    Ask event.Poll ∷ []

-- and those up to the submission
abbrev pub actions_of_a_submission : List Action
actions_of_a_submission = take 6 actions_of_a_run

abbrev pub records_of_a_submission : List Record
records_of_a_submission =
    stepped (event.WriteQueue 0 queue_of_a_run) (reply.Write Written) ∷
    stepped (event.WriteGroup 0 group_of_a_run) (reply.Write Written) ∷
    stepped (event.Issue EnableDevice) (reply.Issue (Ended 0)) ∷
    stepped (event.Issue (EnableWq 0)) (reply.Issue (Ended 0)) ∷
    Refused no_command ∷
    stepped submission_of_a_run (reply.Submit (Accepted (record_ticket 3 0))) ∷ []

abbrev pub records_of_a_run : List Record
records_of_a_run =
    records_of_a_submission ++
    stepped (event.Dispatch 0) (reply.Dispatch (Taken (record_ticket 3 0) 0)) ∷
    stepped (event.Finish 0 (record_ticket 3 0) Success) (reply.Finish (Done 1)) ∷
    stepped event.Poll (reply.Poll Full) ∷ []

abbrev pub lines_of_a_run : List ℕ
lines_of_a_run =
    codes "written\nwritten\nended 0\nended 0\nrefused 13 BadCommand\n"
    ++ codes "accepted 0\ntaken 0 from 0\ndone 01\nfull\nfate 0 - completed 01\n"

-- the steps of two polls
abbrev pub two_polls : List Visit
two_polls = visits smallest_caps 9 [] (polled ++ polled)
