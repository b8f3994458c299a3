-- The lines of an explanation.
use Rattle.dsa_book.specs.declared.answer.Reply.TheVariants as reply
use Rattle.std.specs.Prelude.{ℕ, cond, Bool, true, false, List, [], ◌++◌, codes, decimal}
use Rattle.dsa_book.specs.declared.{answer.{Reply.{Reply}, DispatchAnswer.TheVariants.{Taken}}}
use Rattle.dsa_device.specs.Running.{Running}
use Rattle.dsa_event_text.specs.Text.{bad_word_text, event_text}
use Rattle.dsa_scenario.specs.declared.run.Record.{Record, TheVariants.{Stepped, Refused}}
use Rattle.dsa_scenario.specs.{Lines.{record_text}, Run.{answered_by}, Steps.{Visit}}
use Rattle.dsa_explain_lines.specs.Parts.{part_of}

-- what was asked; a word that is no command is no event (profile)
abbrev pub asked_words : Record → List ℕ
asked_words (Stepped step) = event_text step.event
asked_words (Refused refused) = bad_word_text refused.word

abbrev pub is_taken_by : Reply → Bool
is_taken_by (reply.Dispatch (Taken ticket queue)) = true
is_taken_by _ = false

-- an entry was taken, whatever keeps the fronts of other queues
abbrev pub is_taken : Record → Bool
is_taken (Stepped step) = is_taken_by step.reply
is_taken (Refused refused) = false

-- this part, where no entry was taken
abbrev pub shown : List ℕ → Record → List ℕ
shown part entry = cond (is_taken entry) [] part

-- the step of this number, what was asked and answered, and this part
abbrev pub line_with : List ℕ → ℕ → Record → List ℕ
line_with part number entry =
    decimal number ++ codes " " ++ asked_words entry ++ (codes " -> " ++ record_text entry)
    ++ (shown part entry ++ codes "\n")

-- the step of this number, what was asked of the device that stood so, what it answered, and why (profile)
abbrev pub explained_line : Running → ℕ → Record → List ℕ
explained_line now number entry = line_with (part_of now (answered_by entry)) number entry

-- the line of a step of a run (profile)
abbrev pub explanation_of_step : Visit → List ℕ
explanation_of_step step = explained_line step.before step.number step.entry
