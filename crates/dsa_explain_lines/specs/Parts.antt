-- What a line tells behind an answer.
use Rattle.dsa_book.specs.declared.event.Event.TheVariants as event
use Rattle.dsa_engines.specs.declared.reasons.QueueReason.TheVariants as queue
use Rattle.dsa_engines.specs.declared.reasons.StartReason.TheVariants as start
use Rattle.dsa_engines.specs.declared.reasons.FinishReason.TheVariants as finish
use Rattle.std.specs.Prelude.{ℕ, ◌/◌, ◌%◌, ◌^◌, ◌==◌, ◌||◌, cond, List, [], ◌∷◌, ◌++◌, Option, Some, None, is_some}
use Rattle.std.specs.Prelude.{length, nat_lt, find, option_map, Bool, true, false, Result, Ok, Err}
use Rattle.std.specs.Prelude.{codes, decimal, flat_map}
use Rattle.std.specs.List.{list_any}
use Rattle.dsa_base.specs.Numbers.{numbers_below}
use Rattle.dsa_device.specs.Running.{Running}
use Rattle.dsa_desc.specs.declared.Outcome.{Outcome}
use Rattle.dsa_regs.specs.declared.Command.{Command}
use Rattle.dsa_regs.specs.declared.Deed.{Deed, TheVariants.{Abort, Reset}}
use Rattle.dsa_regs.specs.{Command.{deed_of}}
use Rattle.dsa_book.specs.{declared.event.Event.{Event}, State.{Work, State}, Work.{front_of}}
use Rattle.dsa_book.specs.declared.{answer.Ticket.{Ticket}, fate.{Fate.{Fate}, FateRow.{FateRow}}}
use Rattle.dsa_book.specs.Machine.{intake_of}
use Rattle.dsa_queues.specs.Submission.{submit_reason}
use Rattle.dsa_queues.specs.Write.{write_queue_reason, write_group_reason, clear_reason}
use Rattle.dsa_admin.specs.{declared.reasons.IssueReason.{IssueReason}, Command.{issue_reason, poll_reason}}
use Rattle.dsa_engines.specs.declared.reasons.{EngineReason.{EngineReason}, QueueReason.{QueueReason}}
use Rattle.dsa_engines.specs.declared.reasons.{StartReason.{StartReason}, FinishReason.{FinishReason}}
use Rattle.dsa_buffers.specs.Buffers.{kept_for}
use Rattle.dsa_engines.specs.{Engines.{buffers_at}, Dispatch.{engine_reason, queue_reason}, Finish.{finish_reason}}
use Rattle.dsa_engines.specs.Batch.{name_of_entry, fetch_reason, start_reason}
use Rattle.dsa_explain.specs.declared.awaiting.WaitReason.{WaitReason}
use Rattle.dsa_explain.specs.{Held.{awaited_entry, awaited_lists, NamedList, losses}, Wait.{noted_as, wait_reason}}
use Rattle.dsa_explain_lines.specs.Sentences.{submit_sentence, engine_sentence, queue_sentence, fetch_sentence}
use Rattle.dsa_explain_lines.specs.Sentences.{start_sentence, finish_sentence, issue_sentence, poll_sentence, list_words}
use Rattle.dsa_explain.specs.Done.{done_reason}
use Rattle.dsa_explain_lines.specs.Sentences.{no_engine, no_queue, done_sentence, fate_sentence, unnamed_sentence}
use Rattle.dsa_event_text.specs.Text.{count_text}
use Rattle.dsa_scenario.specs.declared.actions.BadWord.{BadWord}
use Rattle.dsa_explain_lines.specs.Sentences.{write_sentence, clear_sentence, wait_count, kept_words}

-- the sentence of a reason, behind its mark; nothing where there is no reason
abbrev pub told_of : {R : Type 0} → (R → List ℕ) → Option R → List ℕ
told_of sentence None = []
told_of sentence (Some reason) = codes ": " ++ sentence reason

-- ---- read buffers that are kept

-- what is kept for another group, where anything is
abbrev pub kept_part : Work → ℕ → ℕ → List ℕ
kept_part w g other =
    let kept = kept_for (buffers_at w) other in
    cond (other == g || kept == 0) [] (kept_words kept other)

-- for which groups but this one read buffers are kept
abbrev pub keeping_part : Work → ℕ → List ℕ
keeping_part w g = flat_map (kept_part w g) (numbers_below w.setup.caps.groups)

-- the same behind the reason of a queue, where it is about read buffers
abbrev pub queue_keeping : Work → QueueReason → List ℕ
queue_keeping w (queue.NoBuffers want) = keeping_part w want.group
queue_keeping w reason = []

-- and behind that of a member
abbrev pub start_keeping : Work → StartReason → List ℕ
start_keeping w (start.NoBuffers want) = keeping_part w want.group
start_keeping w reason = []

-- ---- an idle engine

-- one of the queues below this number has a reason
abbrev pub any_reason : Work → ℕ → ℕ → Bool
any_reason w e queues = list_any (λ q. is_some (queue_reason w e q)) (numbers_below queues)

-- what stands before a queue's reason: the mark, or what joins it to one before
abbrev pub joint : Work → ℕ → ℕ → List ℕ
joint w e q = cond (any_reason w e q) (codes "; ") (codes ": ")

abbrev pub queue_part_of : Work → ℕ → ℕ → Option QueueReason → List ℕ
queue_part_of w e q None = []
queue_part_of w e q (Some reason) =
    joint w e q ++ queue_sentence q (name_of_entry (front_of w q)) reason ++ queue_keeping w reason

-- the reason of a queue of the engine's group
abbrev pub queue_part : Work → ℕ → ℕ → List ℕ
queue_part w e q = queue_part_of w e q (queue_reason w e q)

-- the reason of each queue of the group of an idle engine; where none has one, the group has no queue
abbrev pub queues_part : Work → ℕ → List ℕ
queues_part w e = cond (any_reason w e w.setup.caps.queues)
    (flat_map (queue_part w e) (numbers_below w.setup.caps.queues)) (codes ": " ++ no_queue e)

abbrev pub dispatch_part_of : Work → ℕ → Option EngineReason → List ℕ
dispatch_part_of w e (Some reason) = codes ": " ++ engine_sentence e reason
dispatch_part_of w e None = queues_part w e

-- the reason of the engine, or that of each queue of its group
abbrev pub dispatch_part : Work → ℕ → List ℕ
dispatch_part w e = dispatch_part_of w e (engine_reason w e)

-- ---- a member that does not start

abbrev pub start_part_of : Work → ℕ → Option StartReason → List ℕ
start_part_of w e None = []
start_part_of w e (Some reason) = codes ": " ++ (start_sentence e reason ++ start_keeping w reason)

-- why the engine starts no member, or that the device has no such engine
abbrev pub start_part : Work → ℕ → List ℕ
start_part w e = cond (nat_lt e w.setup.caps.engines) (start_part_of w e (start_reason w e)) (codes ": " ++ no_engine e)

-- ---- an entry that does not end

-- the reason is what the cell of the ticket holds
abbrev pub is_of_cell : FinishReason → Bool
is_of_cell finish.NoEntry = true
is_of_cell (finish.OtherName name) = true
is_of_cell reason = false

-- how the entry of this name ended, where it did
abbrev pub fate_named : Work → ℕ → Option Fate
fate_named w name = option_map (λ (row : FateRow). row.fate) (find (λ row. row.name == name) w.fates)

-- how the entry ended; of a name that was not given, that no entry has it; and else the reason
abbrev pub gone_words : Work → ℕ → Ticket → FinishReason → Option Fate → List ℕ
gone_words w e ticket reason (Some fate) = fate_sentence ticket.name fate
gone_words w e ticket reason None =
    cond (nat_lt ticket.name w.setup.next_name) (finish_sentence e reason) (unnamed_sentence ticket.name)

-- why the engine does not end the entry of the ticket
abbrev pub unended_words : Work → ℕ → Ticket → FinishReason → List ℕ
unended_words w e ticket reason =
    cond (is_of_cell reason) (gone_words w e ticket reason (fate_named w ticket.name)) (finish_sentence e reason)

-- why the engine does not end the entry of the ticket, or why it ends without success
abbrev pub finish_part_of : Work → ℕ → Ticket → Outcome → Option FinishReason → List ℕ
finish_part_of w e ticket outcome (Some reason) = codes ": " ++ unended_words w e ticket reason
finish_part_of w e ticket outcome None = told_of done_sentence (done_reason w e ticket outcome)

abbrev pub finish_part : Work → ℕ → Ticket → Outcome → List ℕ
finish_part w e ticket outcome = finish_part_of w e ticket outcome (finish_reason w e ticket)

-- ---- commands

-- the lists with the names of some of their entries, the first behind this mark
abbrev pub lists_part : List ℕ → List ℕ → List NamedList → List ℕ
lists_part verb mark [] = []
lists_part verb mark (named ∷ more) = list_words mark verb named.0 named.1 ++ lists_part verb (codes "; ") more

-- what an abort or a reset removes, list by list
abbrev pub losses_part : State → Command → List ℕ
losses_part s command = lists_part (codes " loses ") (codes ": ") (losses s command)

-- how many entries a command waits for, and which, list by list
abbrev pub wait_part_of : State → Command → Option WaitReason → List ℕ
wait_part_of s command None = []
wait_part_of s command (Some reason) = codes ": " ++ wait_count reason.awaited
    ++ lists_part (codes ": ") (codes ", ") (awaited_lists (noted_as s command) s)

-- the same where the command is answered active
abbrev pub wait_part : State → Command → List ℕ
wait_part s command = wait_part_of s command (wait_reason s command)

-- what is told of a command that is carried out: an abort and a reset name what they remove, and what is
-- answered active names what it waits for
abbrev pub deed_part : State → Command → Deed → List ℕ
deed_part s command Abort = losses_part s command
deed_part s command Reset = losses_part s command
deed_part s command _ = wait_part s command

abbrev pub issue_part_of : State → Command → Option IssueReason → List ℕ
issue_part_of s command None = deed_part s command (deed_of command)
issue_part_of s command (Some reason) =
    codes ": " ++ issue_sentence (awaited_entry s) reason

-- why a command is refused, or what it removes or waits for
abbrev pub issue_part : State → Command → List ℕ
issue_part s command = issue_part_of s command (issue_reason s command)

-- ---- any event

-- why the event is answered as it is in this state
abbrev pub event_part : State → Event → List ℕ
event_part s (event.Submit client queue portal kind desc) =
    told_of (submit_sentence queue) (submit_reason (intake_of s) queue portal kind)
event_part s (event.Dispatch engine) = dispatch_part s.work engine
event_part s (event.Fetch engine desc) = told_of (fetch_sentence engine) (fetch_reason s.work engine)
event_part s (event.Start engine) = start_part s.work engine
event_part s (event.Finish engine ticket outcome) = finish_part s.work engine ticket outcome
event_part s (event.Issue command) = issue_part s command
event_part s event.Poll = told_of (poll_sentence (awaited_entry s)) (poll_reason s)
event_part s (event.WriteQueue queue config) =
    told_of (write_sentence (codes "queue") (codes "queues")) (write_queue_reason s.work.setup queue config)
event_part s (event.WriteGroup group config) =
    told_of (write_sentence (codes "group") (codes "groups")) (write_group_reason s.work.setup group)
event_part s event.ClearError = told_of clear_sentence (clear_reason s.work.setup.noted)

-- ---- what is asked of a device

-- what a history without room says
abbrev pub room_part : ℕ → List ℕ
room_part capacity = count_text (codes ": the history has room for ") capacity (codes "step") (codes "steps")

-- that no more names were left, where that is why it has no more room
abbrev pub names_part : Running → List ℕ
names_part now = cond (nat_lt now.capacity now.room) (codes ", as many as names were left") []

-- what is told of any event where the history is full
abbrev pub full_part : Running → List ℕ
full_part now = room_part now.capacity ++ names_part now

-- what is said of bits 30:25 of a word, which have to be clear
abbrev pub reserved_part : ℕ → List ℕ
reserved_part reserved = codes ", with " ++ decimal reserved ++ codes " in bits 30:25"

-- what is said of a word that is no command, with this number
abbrev pub no_command_part : ℕ → ℕ → List ℕ
no_command_part number reserved = codes ": no command has the number " ++ decimal number ++ reserved_part reserved

-- the same of a word: its number is in bits 24:20
abbrev pub word_part : ℕ → List ℕ
word_part word = no_command_part (word / 2 ^ 20 % 2 ^ 5) (word / 2 ^ 25 % 2 ^ 6)

-- why a device that stands so answers the event as it does, or why the word is refused (profile)
abbrev pub part_of : Running → Result Event BadWord → List ℕ
part_of now (Err refused) = word_part refused.word
part_of now (Ok event) =
    cond (length now.history == now.capacity) (full_part now) (event_part now.state event)
