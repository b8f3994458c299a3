-- The names of the entries that a line says are waited for by a command.
use Rattle.dsa_book.specs.declared.answer.Reply.TheVariants as reply
use Rattle.dsa_book.specs.declared.answer.PollAnswer.TheVariants as poll
use Rattle.dsa_scenario.specs.declared.run.Record.TheVariants as entry
use Rattle.std.specs.Prelude.{ℕ, List, [], ◌∷◌, Option, Some, None, flat_map}
use Rattle.dsa_regs.specs.declared.Fault.TheVariants.{Busy}
use Rattle.dsa_book.specs.{declared.note.ActiveCommand.{ActiveCommand}, State.{State}}
use Rattle.dsa_book.specs.declared.answer.{Reply.{Reply}, IssueAnswer.TheVariants.{Active, Refused}}
use Rattle.dsa_scenario.specs.declared.run.Record.{Record}
use Rattle.dsa_explain.specs.declared.held.ListedEntry.{ListedEntry}
use Rattle.dsa_explain.specs.Held.{awaited_entry, awaited_lists}

-- those that a command waits for which is noted so, if one is
abbrev pub names_awaited_by : Option ActiveCommand → State → List ℕ
names_awaited_by None s = []
names_awaited_by (Some noted) s = flat_map (λ named. named.1) (awaited_lists noted s)

-- all that the active command waits for
abbrev pub awaited_names : State → List ℕ
awaited_names s = names_awaited_by s.active s

abbrev pub name_of_first : Option ListedEntry → List ℕ
name_of_first None = []
name_of_first (Some held) = held.entry.name ∷ []

-- the first of them
abbrev pub first_awaited_name : State → List ℕ
first_awaited_name s = name_of_first (awaited_entry s)

-- all where the command was answered active, and the first where a poll or another command was told that it is
abbrev pub names_told_by : Reply → State → List ℕ
names_told_by (reply.Issue Active) s = awaited_names s
names_told_by (reply.Issue (Refused Busy)) s = first_awaited_name s
names_told_by (reply.Poll poll.Active) s = first_awaited_name s
names_told_by _ s = []

abbrev pub names_told : Record → State → List ℕ
names_told (entry.Stepped step) s = names_told_by step.reply s
names_told (entry.Refused word) s = []
