-- What the bytes of a saved device say (profile).
use Rattle.std.specs.Prelude.{◌≡◌, ℕ, ◌+◌, ◌*◌, ◌%◌, ◌^◌, ◌==◌, cond, List, [], ◌∷◌, slice_index, Option, Some}
use Rattle.std.specs.Prelude.{option_and_then, option_map}
use Rattle.dsa_base.specs.Rows.{first_row}
use Rattle.dsa_desc.specs.declared.{Descriptor.{Descriptor}, Outcome.{Outcome, TheVariants.{Success, PageFault}}}
use Rattle.dsa_regs.specs.declared.{Caps.{Caps}, QueueConfig.{QueueConfig}, GroupConfig.{GroupConfig}}
use Rattle.dsa_regs.specs.declared.{QueueMask.{QueueMask}, Command.{Command}}
use Rattle.dsa_regs.specs.declared.Command.TheVariants.{EnableDevice, DisableDevice, DrainAll, AbortAll, ResetDevice}
use Rattle.dsa_regs.specs.declared.Command.TheVariants.{EnableWq, DisableWq, DrainWq, AbortWq, ResetWq, DrainPasid}
use Rattle.dsa_regs.specs.declared.Command.TheVariants.{AbortPasid}
use Rattle.dsa_book.specs.declared.{answer.Ticket.{Ticket}, event.{Step.{Step}, Event.{Event}}}
use Rattle.dsa_book.specs.declared.event.Portal.{Portal, TheVariants.{Limited, Unlimited}}
use Rattle.dsa_book.specs.declared.event.Kind.{Kind, TheVariants.{Enqcmd, Movdir64b}}
use Rattle.dsa_book.specs.declared.event.Event.TheVariants.{Submit, Dispatch, Fetch, Start, Finish, Issue, Poll}
use Rattle.dsa_book.specs.declared.event.Event.TheVariants.{WriteQueue, WriteGroup, ClearError}
use Rattle.dsa_book.specs.Choice.{Choice, nothing, in_cell, from_queue, choice_of}
use Rattle.dsa_saved.specs.Words.{words_of}
use Rattle.dsa_saved.specs.Format.{event_bytes, choice_bytes}

abbrev pub portal_of_word : ℕ → Portal
portal_of_word word = cond (word == 1) Unlimited Limited

abbrev pub outcome_of_word : ℕ → Outcome
outcome_of_word word = cond (word == 1) PageFault Success

abbrev pub descriptor_of_words : ℕ → ℕ → ℕ → ℕ → Descriptor
descriptor_of_words pasid flags op size = record { pasid = pasid; flags = flags; op = op % 2 ^ 8; size = size }

abbrev pub submission_of_words : Kind → List ℕ → Event
submission_of_words kind words =
    Submit (slice_index words 1 % 2 ^ 16) (slice_index words 2 % 2 ^ 16) (portal_of_word (slice_index words 3)) kind
    (descriptor_of_words (slice_index words 5) (slice_index words 6) (slice_index words 7) (slice_index words 8))

abbrev pub fetch_of_words : List ℕ → Event
fetch_of_words words =
    Fetch (slice_index words 1 % 2 ^ 16)
    (descriptor_of_words (slice_index words 2) (slice_index words 3) (slice_index words 4) (slice_index words 5))

abbrev pub finish_of_words : List ℕ → Event
finish_of_words words =
    Finish (slice_index words 1 % 2 ^ 16)
    (record { cell = record { 0 = slice_index words 2 }; name = slice_index words 3 })
    (outcome_of_word (slice_index words 4))

abbrev pub mask_of_words : ℕ → ℕ → QueueMask
mask_of_words group mask = record { group = group % 2 ^ 8; mask = mask % 2 ^ 16 }

-- the command of this number, about whom the other words say
abbrev pub command_of_words : ℕ → ℕ → ℕ → Option Command
command_of_words number first mask = first_row (
    (number == 1, EnableDevice) ∷
    (number == 2, DisableDevice) ∷
    (number == 3, DrainAll) ∷
    (number == 4, AbortAll) ∷
    (number == 5, ResetDevice) ∷
    (number == 6, EnableWq first) ∷
    (number == 7, DisableWq (mask_of_words first mask)) ∷
    (number == 8, DrainWq (mask_of_words first mask)) ∷
    (number == 9, AbortWq (mask_of_words first mask)) ∷
    (number == 10, ResetWq (mask_of_words first mask)) ∷
    (number == 11, DrainPasid first) ∷
    (number == 12, AbortPasid first) ∷ [])

abbrev pub issue_of_words : List ℕ → Option Event
issue_of_words words =
    option_map (λ command. Issue command)
    (command_of_words (slice_index words 1) (slice_index words 2) (slice_index words 3))

abbrev pub queue_of_words : List ℕ → Event
queue_of_words words =
    WriteQueue (slice_index words 1 % 2 ^ 16) (record {
      size = slice_index words 2 % 2 ^ 16;
      threshold = slice_index words 3 % 2 ^ 16;
      dedicated = slice_index words 4 == 1;
      priority = slice_index words 5 % 2 ^ 8;
      pasid = slice_index words 6;
      max_batch_shift = slice_index words 7 % 2 ^ 8;
      max_xfer_shift = slice_index words 8 % 2 ^ 8;
    })

abbrev pub group_of_words : List ℕ → Event
group_of_words words =
    WriteGroup (slice_index words 1 % 2 ^ 16) (record {
      queues = slice_index words 2 + 2 ^ 32 * slice_index words 3;
      engines = slice_index words 4 + 2 ^ 32 * slice_index words 5;
      reserved = slice_index words 6 % 2 ^ 16;
      allowed = slice_index words 7 % 2 ^ 16;
    })

-- the event that nine words say, by their kind; some words say an event whose words are others
abbrev pub event_of_words : List ℕ → Option Event
event_of_words words =
    let kind = slice_index words 0 in
    option_and_then (λ said. said) (first_row (
    (kind == 1, Some (submission_of_words (Enqcmd (slice_index words 4)) words)) ∷
    (kind == 2, Some (submission_of_words Movdir64b words)) ∷
    (kind == 3, Some (Dispatch (slice_index words 1 % 2 ^ 16))) ∷
    (kind == 4, Some (fetch_of_words words)) ∷
    (kind == 5, Some (Start (slice_index words 1 % 2 ^ 16))) ∷
    (kind == 6, Some (finish_of_words words)) ∷
    (kind == 7, issue_of_words words) ∷
    (kind == 8, Some Poll) ∷
    (kind == 9, Some (queue_of_words words)) ∷
    (kind == 10, Some (group_of_words words)) ∷
    (kind == 11, Some ClearError) ∷ []))

-- what two words say was free
abbrev pub choice_of_words : List ℕ → Choice
choice_of_words words =
    cond (slice_index words 0 == 1) (in_cell (record { 0 = slice_index words 1 }))
    (cond (slice_index words 0 == 2) (from_queue (slice_index words 1)) nothing)

-- what the words of a header say a device has
abbrev pub caps_of_words : List ℕ → Caps
caps_of_words words = record {
  queues = slice_index words 1 % 2 ^ 16;
  groups = slice_index words 2 % 2 ^ 16;
  engines = slice_index words 3 % 2 ^ 16;
  total_size = slice_index words 4 % 2 ^ 16;
  read_buffers = slice_index words 5 % 2 ^ 16;
  slots = slice_index words 6 % 2 ^ 16;
  max_batch_shift = slice_index words 7 % 2 ^ 8;
  max_xfer_shift = slice_index words 8 % 2 ^ 8;
}

-- ---- what is read again

-- the bytes of the step's event say this event, and those of what was free in it say that
pub record IsStepRead (step : Step) : Type 0 where
  pub event : event_of_words (words_of 9 (event_bytes step.event)) ≡ Some step.event
  pub choice : choice_of_words (words_of 2 (choice_bytes (choice_of step.reply))) ≡ choice_of step.reply
