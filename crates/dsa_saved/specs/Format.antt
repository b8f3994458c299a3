-- The records of a saved device, one for each step of its history, and its header (profile).
use Rattle.std.specs.Prelude.{ℕ, ◌/◌, ◌%◌, ◌^◌, Bool, cond, List, [], ◌∷◌, ◌++◌}
use Rattle.dsa_desc.specs.declared.Outcome.{Outcome, TheVariants.{Success, PageFault}}
use Rattle.dsa_regs.specs.declared.{Caps.{Caps}, Scope.{Scope, TheVariants.{Device, Queue, Queues, Pasid}}}
use Rattle.dsa_regs.specs.Command.{number_of_command, scope_of}
use Rattle.dsa_book.specs.declared.event.{Step.{Step}, Event.{Event}}
use Rattle.dsa_book.specs.declared.event.Portal.{Portal, TheVariants.{Limited, Unlimited}}
use Rattle.dsa_book.specs.declared.event.Kind.{Kind, TheVariants.{Enqcmd, Movdir64b}}
use Rattle.dsa_book.specs.declared.event.Event.TheVariants.{Submit, Dispatch, Fetch, Start, Finish, Issue, Poll}
use Rattle.dsa_book.specs.declared.event.Event.TheVariants.{WriteQueue, WriteGroup, ClearError}
use Rattle.dsa_book.specs.Choice.{Choice, nothing, in_cell, from_queue, choice_of}
use Rattle.dsa_saved.specs.Words.{bytes_of_words}

-- ---- the event of a step, in nine words

abbrev pub flag_word : Bool → ℕ
flag_word flag = cond flag 1 0

abbrev pub portal_word : Portal → ℕ
portal_word Limited = 0
portal_word Unlimited = 1

abbrev pub outcome_word : Outcome → ℕ
outcome_word Success = 0
outcome_word PageFault = 1

-- the kind of a submission: 1 by ENQCMD, 2 by MOVDIR64B
abbrev pub kind_word : Kind → ℕ
kind_word (Enqcmd pasid) = 1
kind_word Movdir64b = 2

-- the PASID of the instruction
abbrev pub pasid_word : Kind → ℕ
pasid_word (Enqcmd pasid) = pasid
pasid_word Movdir64b = 0

-- whom a command is about: the number of a queue, the group of a mask, or a PASID
abbrev pub scope_word : Scope → ℕ
scope_word Device = 0
scope_word (Queue queue) = queue
scope_word (Queues queues) = queues.group
scope_word (Pasid pasid) = pasid

-- and which queues of that group
abbrev pub mask_word : Scope → ℕ
mask_word (Queues queues) = queues.mask
mask_word _ = 0

-- a kind, and what is said of an event of that kind
abbrev pub event_words : Event → List ℕ
event_words (Submit client queue portal kind desc) =
    kind_word kind ∷ client ∷ queue ∷ portal_word portal ∷ pasid_word kind
    ∷ desc.pasid ∷ desc.flags ∷ desc.op ∷ desc.size ∷ []
event_words (Dispatch engine) = 3 ∷ engine ∷ 0 ∷ 0 ∷ 0 ∷ 0 ∷ 0 ∷ 0 ∷ 0 ∷ []
event_words (Fetch engine desc) =
    4 ∷ engine ∷ desc.pasid ∷ desc.flags ∷ desc.op ∷ desc.size ∷ 0 ∷ 0 ∷ 0 ∷ []
event_words (Start engine) = 5 ∷ engine ∷ 0 ∷ 0 ∷ 0 ∷ 0 ∷ 0 ∷ 0 ∷ 0 ∷ []
event_words (Finish engine ticket outcome) =
    6 ∷ engine ∷ ticket.cell.0 ∷ ticket.name ∷ outcome_word outcome ∷ 0 ∷ 0 ∷ 0 ∷ 0 ∷ []
event_words (Issue command) =
    7 ∷ number_of_command command ∷ scope_word (scope_of command) ∷ mask_word (scope_of command)
    ∷ 0 ∷ 0 ∷ 0 ∷ 0 ∷ 0 ∷ []
event_words Poll = 8 ∷ 0 ∷ 0 ∷ 0 ∷ 0 ∷ 0 ∷ 0 ∷ 0 ∷ 0 ∷ []
event_words (WriteQueue queue config) =
    9 ∷ queue ∷ config.size ∷ config.threshold ∷ flag_word config.dedicated ∷ config.priority
    ∷ config.pasid ∷ config.max_batch_shift ∷ config.max_xfer_shift ∷ []
event_words (WriteGroup group config) =
    10 ∷ group ∷ config.queues % 2 ^ 32 ∷ config.queues / 2 ^ 32
    ∷ config.engines % 2 ^ 32 ∷ config.engines / 2 ^ 32 ∷ config.reserved ∷ config.allowed ∷ 0 ∷ []
event_words ClearError = 11 ∷ 0 ∷ 0 ∷ 0 ∷ 0 ∷ 0 ∷ 0 ∷ 0 ∷ 0 ∷ []

unfoldable pub event_bytes : Event → List ℕ
event_bytes event = bytes_of_words (event_words event)

-- ---- what was free in a step, in two words

-- nothing, the cell of the entry that came in, or the queue that an entry was taken from
abbrev pub choice_words : Choice → List ℕ
choice_words nothing = 0 ∷ 0 ∷ []
choice_words (in_cell cell) = 1 ∷ cell.0 ∷ []
choice_words (from_queue queue) = 2 ∷ queue ∷ []

unfoldable pub choice_bytes : Choice → List ℕ
choice_bytes choice = bytes_of_words (choice_words choice)

-- ---- the records and the header

-- a record of 44 bytes for each step
abbrev pub record_of : Step → List ℕ
record_of step = event_bytes step.event ++ choice_bytes (choice_of step.reply)

-- the version of the format, what the device has, for how many steps its history has room, and how
-- many it has
abbrev pub header_words : Caps → ℕ → ℕ → List ℕ
header_words caps capacity count =
    1 ∷ caps.queues ∷ caps.groups ∷ caps.engines ∷ caps.total_size ∷ caps.read_buffers ∷ caps.slots
    ∷ caps.max_batch_shift ∷ caps.max_xfer_shift ∷ capacity ∷ count ∷ []

unfoldable pub header_bytes : Caps → ℕ → ℕ → List ℕ
header_bytes caps capacity count = bytes_of_words (header_words caps capacity count)
