-- A run as a scenario document: its capabilities, the capacity of its history, and its steps, each with its answer.
use Rattle.dsa_book.specs.declared.event.Event.TheVariants as event
use Rattle.dsa_scenario.specs.declared.actions.StepKind.TheVariants as kind
use Rattle.std.specs.Prelude.{ℕ, Bool, true, false, List, [], ◌∷◌, ◌++◌, map, zip, unwrap_or, codes, decimal}
use Rattle.hex.specs.Hex.{encode_lower}
use Rattle.serde_json.specs.Data.{Data, number, boolean, string, unsigned}
use Rattle.dsa_desc.specs.{declared.Descriptor.{Descriptor}, Descriptor.{bytes_of, is_page_fault}}
use Rattle.dsa_regs.specs.{declared.Caps.{Caps}, declared.Command.{Command}, Command.{word_of}}
use Rattle.dsa_book.specs.declared.event.{Event.{Event}, Step.{Step}, Kind.{Kind, TheVariants.{Enqcmd, Movdir64b}}}
use Rattle.dsa_book.specs.declared.event.Portal.{Portal, TheVariants.{Limited, Unlimited}}
use Rattle.dsa_scenario.specs.declared.actions.StepKind.{StepKind}
use Rattle.dsa_scenario.specs.{Actions.{kind_text, rows_of_kind}, Lines.{reply_text}}
use Rattle.dsa_recordings.specs.Texts.{Member, object_text, objects_text}

-- ---- steps (profile)

abbrev pub kind_of_submission : Kind → StepKind
kind_of_submission (Enqcmd pasid) = kind.Enqcmd
kind_of_submission Movdir64b = kind.Movdir

-- the kind of step object that asks for an event
abbrev pub kind_of_event : Event → StepKind
kind_of_event (event.Submit client queue portal submission desc) = kind_of_submission submission
kind_of_event (event.Dispatch engine) = kind.Dispatch
kind_of_event (event.Fetch engine desc) = kind.Fetch
kind_of_event (event.Start engine) = kind.Start
kind_of_event (event.Finish engine ticket outcome) = kind.Finish
kind_of_event (event.Issue command) = kind.Command
kind_of_event event.Poll = kind.Poll
kind_of_event (event.WriteQueue queue config) = kind.Queue
kind_of_event (event.WriteGroup group config) = kind.Group
kind_of_event event.ClearError = kind.Clear

abbrev pub natural : ℕ → Data
natural n = number (unsigned n)

abbrev pub is_limited : Portal → Bool
is_limited Limited = true
is_limited Unlimited = false

-- all 64 bytes of a descriptor in hexadecimal: those that no field has are 0
abbrev pub desc_digits : Descriptor → List ℕ
desc_digits desc = encode_lower (bytes_of desc)

-- the PASID of ENQCMD, which MOVDIR64B has not
abbrev pub pasid_values : Kind → List Data
pasid_values (Enqcmd pasid) = natural pasid ∷ []
pasid_values Movdir64b = []

-- the word of a command, or 0, which is no command, where it has none
abbrev pub word_or_none : Command → ℕ
word_or_none command = unwrap_or (word_of command) 0

-- the values at the keys of the kind, in their order; a finish has the name of the ticket, and not its cell
abbrev pub values_of_event : Event → List Data
values_of_event (event.Submit client queue portal submission desc) =
    natural client ∷ natural queue ∷ boolean (is_limited portal)
    ∷ (pasid_values submission ++ string (desc_digits desc) ∷ [])
values_of_event (event.Dispatch engine) = natural engine ∷ []
values_of_event (event.Fetch engine desc) = natural engine ∷ string (desc_digits desc) ∷ []
values_of_event (event.Start engine) = natural engine ∷ []
values_of_event (event.Finish engine ticket outcome) =
    natural engine ∷ natural ticket.name ∷ boolean (is_page_fault outcome) ∷ []
values_of_event (event.Issue command) = natural (word_or_none command) ∷ []
values_of_event event.Poll = []
values_of_event (event.WriteQueue queue config) =
    natural queue ∷ natural config.size ∷ natural config.threshold ∷ boolean config.dedicated ∷ natural config.priority
    ∷ natural config.pasid ∷ natural config.max_batch_shift ∷ natural config.max_xfer_shift ∷ []
values_of_event (event.WriteGroup group config) =
    natural group ∷ natural config.queues ∷ natural config.engines ∷ natural config.reserved
    ∷ natural config.allowed ∷ []
values_of_event event.ClearError = []

-- the keys of the kind with these values
abbrev pub fields_of_event : Event → List Member
fields_of_event e = zip (map (λ row. row.0) (rows_of_kind (kind_of_event e))) (values_of_event e)

-- a step object: its kind, the keys of the kind, and what was answered
abbrev pub members_of_step : Step → List Member
members_of_step step =
    (codes "do", string (kind_text (kind_of_event step.event)))
    ∷ (fields_of_event step.event ++ (codes "answer", string (reply_text step.reply)) ∷ [])

-- ---- documents (profile)

abbrev pub members_of_caps : Caps → List Member
members_of_caps caps =
    (codes "queues", natural caps.queues) ∷
    (codes "groups", natural caps.groups) ∷
    (codes "engines", natural caps.engines) ∷
    (codes "total_size", natural caps.total_size) ∷
    (codes "read_buffers", natural caps.read_buffers) ∷
    (codes "slots", natural caps.slots) ∷
    (codes "max_batch_shift", natural caps.max_batch_shift) ∷
    (codes "max_xfer_shift", natural caps.max_xfer_shift) ∷ []

-- the document of a run, with each step object on a line
abbrev pub recording_text : Caps → ℕ → List Step → List ℕ
recording_text caps capacity steps =
    codes "{\"caps\":" ++ object_text (members_of_caps caps) ++ codes ",\"capacity\":" ++ decimal capacity
    ++ codes ",\"steps\":[" ++ objects_text (codes "\n") (codes ",\n") (map members_of_step steps) ++ codes "\n]}"
