-- The instant event of a step, and the slices of commands. Each event comes after a comma and a line feed.
use Rattle.dsa_book.specs.declared.answer.Reply.TheVariants as reply
use Rattle.dsa_book.specs.declared.answer.IssueAnswer.TheVariants as issue
use Rattle.dsa_book.specs.declared.answer.PollAnswer.TheVariants as poll
use Rattle.dsa_book.specs.declared.event.Event.TheVariants as event
use Rattle.std.specs.Prelude.{ℕ, ◌+◌, List, [], ◌++◌, codes, decimal}
use Rattle.dsa_regs.specs.declared.Command.{Command}
use Rattle.dsa_book.specs.declared.{answer.Reply.{Reply}, event.Event.{Event}}
use Rattle.dsa_book.specs.declared.event.Actor.{Actor, TheVariants.{Client, Engine, Admin}}
use Rattle.dsa_book.specs.Totals.{actor_of}
use Rattle.dsa_event_text.specs.Text.{bad_word_text, command_with_operand, event_text}
use Rattle.dsa_scenario.specs.declared.run.Record.{Record, TheVariants.{Stepped, Refused}}
use Rattle.dsa_scenario.specs.Lines.{record_text}

-- who asked for a step; a word that is no command comes from the administrator
abbrev pub maker_of : Record → Actor
maker_of (Stepped step) = actor_of step.event
maker_of (Refused fault) = Admin

-- the device is process 1, with one thread for all clients and one for the administrator; the steps of engines are
-- process 3, with a thread for each engine
abbrev pub thread_text : Actor → List ℕ
thread_text (Client client) = codes ",\"pid\":1,\"tid\":1"
thread_text Admin = codes ",\"pid\":1,\"tid\":2"
thread_text (Engine engine) = codes ",\"pid\":3,\"tid\":" ++ decimal (engine + 1)

-- what was asked; a word that is no command is no event
abbrev pub event_words_of : Record → List ℕ
event_words_of (Stepped step) = event_text step.event
event_words_of (Refused refused) = bad_word_text refused.word

abbrev pub answer_args : Record → List ℕ
answer_args entry = codes "\",\"answer\":\"" ++ record_text entry ++ codes "\"}}"

-- the number of the step, what was asked, and what was answered
abbrev pub step_args : ℕ → Record → List ℕ
step_args number entry =
    codes ",\"args\":{\"step\":" ++ decimal number ++ codes ",\"event\":\"" ++ event_words_of entry ++ answer_args entry

-- the instant event of a step is named by its answer; its time is its number
abbrev pub instant_text : ℕ → Record → List ℕ
instant_text number entry =
    codes ",\n{\"name\":\"" ++ record_text entry ++ (codes "\",\"ph\":\"i\",\"s\":\"t\",\"ts\":" ++ decimal number)
    ++ thread_text (maker_of entry) ++ step_args number entry

-- ---- commands

abbrev pub command_begin : ℕ → Command → List ℕ
command_begin number command =
    codes ",\n{\"name\":\"" ++ command_with_operand command ++ codes "\",\"ph\":\"B\",\"ts\":" ++ decimal number
    ++ codes ",\"pid\":1,\"tid\":2}"

abbrev pub command_end : ℕ → List ℕ
command_end number = codes ",\n{\"ph\":\"E\",\"ts\":" ++ decimal number ++ codes ",\"pid\":1,\"tid\":2}"

-- a command that is active begins a slice, and the poll that reports its end ends it
abbrev pub command_part : ℕ → Event → Reply → List ℕ
command_part number (event.Issue command) (reply.Issue issue.Active) = command_begin number command
command_part number _ (reply.Poll poll.Finished) = command_end number
command_part number _ _ = []

abbrev pub command_of_record : ℕ → Record → List ℕ
command_of_record number (Stepped step) = command_part number step.event step.reply
command_of_record number (Refused fault) = []
