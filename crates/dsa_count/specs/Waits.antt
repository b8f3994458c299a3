-- How many steps commands waited.
use Rattle.dsa_book.specs.declared.answer.Reply.TheVariants as reply
use Rattle.dsa_book.specs.declared.answer.IssueAnswer.TheVariants as issue
use Rattle.dsa_book.specs.declared.answer.PollAnswer.TheVariants as poll
use Rattle.dsa_book.specs.declared.event.Event.TheVariants as event
use Rattle.std.specs.Prelude.{ℕ, ◌+◌, Bool, true, false, List, [], ◌∷◌, ◌++◌, length, position, Option, Some, None}
use Rattle.std.specs.Prelude.{codes, decimal}
use Rattle.dsa_regs.specs.declared.Command.{Command}
use Rattle.dsa_book.specs.declared.{answer.Reply.{Reply}, event.Event.{Event}}
use Rattle.dsa_event_text.specs.Text.{command_with_operand, count_text}
use Rattle.dsa_scenario.specs.declared.run.Record.{Record, TheVariants.{Stepped, Refused}}

-- the command of an event that was answered active
abbrev pub active_by : Event → Reply → Option Command
active_by (event.Issue command) (reply.Issue issue.Active) = Some command
active_by _ _ = None

abbrev pub active_in : Record → Option Command
active_in (Stepped step) = active_by step.event step.reply
active_in (Refused fault) = None

-- a poll reported that the command is over
abbrev pub is_end : Reply → Bool
is_end (reply.Poll poll.Finished) = true
is_end _ = false

abbrev pub reports_end : Record → Bool
reports_end (Stepped step) = is_end step.reply
reports_end (Refused fault) = false

-- the first of the later steps that reported the end has this place among them, or none of so many did
abbrev pub wait_text : Option ℕ → ℕ → List ℕ
wait_text (Some place) later = count_text (codes ": finished after ") (place + 1) (codes "step") (codes "steps")
wait_text None later = count_text (codes ": still active after ") later (codes "step") (codes "steps")

unfoldable pub end_wait_text : List Record → List ℕ
end_wait_text later = wait_text (position reports_end later) (length later)

abbrev pub command_line_of : ℕ → List Record → Option Command → List ℕ
command_line_of number later None = []
command_line_of number later (Some command) =
    codes "command " ++ decimal number ++ codes " " ++ command_with_operand command ++ end_wait_text later ++ codes "\n"

-- the line of a step whose command was answered active, by the later steps
abbrev pub command_line : ℕ → Record → List Record → List ℕ
command_line number entry later = command_line_of number later (active_in entry)

-- the lines of these steps, the first of which has this number
abbrev pub command_lines : ℕ → List Record → List ℕ
command_lines number [] = []
command_lines number (entry ∷ later) = command_line number entry later ++ command_lines (number + 1) later
