-- The lines of a trace.
use Rattle.std.specs.Prelude.{ℕ, List, ◌++◌, decimal}
use Rattle.std.specs.Str.Lines.{lines}
use Rattle.dsa_regs.specs.declared.Caps.{Caps}
use Rattle.dsa_book.specs.declared.fate.FateRow.{FateRow}
use Rattle.dsa_device.specs.Running.{Running}
use Rattle.dsa_event_text.specs.Text.{bad_word_text, event_text}
use Rattle.dsa_scenario.specs.declared.run.Record.{Record, TheVariants.{Stepped, Refused}}
use Rattle.dsa_scenario.specs.{Lines.{record_text}, Steps.{Visit}}
use Rattle.dsa_trace.specs.declared.form.Trace.{Trace, TheVariants.{Json, Changes}}
use Rattle.dsa_trace.specs.declared.form.Part.TheVariants.{Step, Event, Answer, AnswerEnd, LineEnd}
use Rattle.dsa_trace.specs.declared.form.Part.TheVariants.{Result, TextEnd, Fates, FatesEnd}
use Rattle.dsa_trace.specs.Changes.{changed_columns, changed_lists, snapshot, told_before_step}
use Rattle.dsa_trace.specs.{Marks.{mark, pad}, Columns.{marked, row_columns, command_column, state_members}}
use Rattle.dsa_trace.specs.{Held.{names_columns}, Results.{result_kind, record_members}}
use Rattle.dsa_trace.specs.Ended.{ended_rows, fate_objects}

-- what was asked; a word that is no command is no event (profile)
abbrev pub traced_event_words : Record → List ℕ
traced_event_words (Stepped step) = event_text step.event
traced_event_words (Refused refused) = bad_word_text refused.word

-- what was answered
abbrev pub answered_text : Trace → Record → List ℕ
answered_text form entry = mark form Answer ++ record_text entry ++ mark form AnswerEnd

-- the answer as an object, and the fates of the entries that the step ended, after which these are the fates (profile)
abbrev pub outcome_text : Record → List FateRow → List ℕ
outcome_text entry fates =
    (mark Json Result ++ result_kind entry ++ mark Json TextEnd ++ record_members entry)
    ++ (mark Json Fates ++ fate_objects (ended_rows entry fates) ++ mark Json FatesEnd)

-- the step of this number, what was asked and answered, and what the device shows after it (profile)
abbrev pub json_line : ℕ → Record → Running → List ℕ
json_line number entry now =
    marked Json Step number ++ (mark Json Event ++ traced_event_words entry) ++ answered_text Json entry
    ++ outcome_text entry now.state.work.fates ++ state_members Json now.caps now.state ++ mark Json LineEnd

-- the same as a row: columns, then what was asked and answered, then the names of entries and the active command; the
-- number is as wide as the capacity (profile)
abbrev pub row_line : Trace → ℕ → Record → Running → List ℕ
row_line form number entry now =
    pad form number now.capacity ++ decimal number ++ row_columns form now.caps now.state
    ++ (mark form Event ++ traced_event_words entry) ++ answered_text form entry
    ++ names_columns now.caps now.state ++ command_column form now.state ++ mark form LineEnd

-- a row with what changed from these lines of a snapshot to those: of the columns, then what was asked and answered,
-- then of the lists and the active command (profile)
abbrev pub change_row : List (List ℕ) → List (List ℕ) → ℕ → Record → Caps → List ℕ
change_row was now number entry caps =
    marked Changes Step number ++ changed_columns was now caps
    ++ (mark Changes Event ++ traced_event_words entry) ++ answered_text Changes entry
    ++ changed_lists was now caps ++ mark Changes LineEnd

-- the row of a step, where this is the snapshot of the device before it (profile)
abbrev pub change_line : List ℕ → ℕ → Record → Running → List ℕ
change_line before number entry now =
    change_row (lines before) (lines (snapshot now.caps now.state)) number entry now.caps

-- in each form, where this was told of the device before the step (profile)
abbrev pub step_line : Trace → List ℕ → ℕ → Record → Running → List ℕ
step_line Json told number entry now = json_line number entry now
step_line Changes told number entry now = change_line told number entry now
step_line form told number entry now = row_line form number entry now

-- the line of a step of a run, with what the device shows after it, or with what that changed (profile)
abbrev pub trace_line_of_step : Trace → Visit → List ℕ
trace_line_of_step form step =
    step_line form (told_before_step form step.before) step.number step.entry step.after
