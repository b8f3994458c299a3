-- The rows above the bands, as text: commands, marks of those who asked, active commands, and what ended.
use Rattle.std.specs.Prelude.{ℕ, ◌+◌, ◌-◌, ◌*◌, ◌==◌, cond, nat_lt, min, List, [], ◌∷◌, ◌++◌, length, codes, decimal}
use Rattle.std.specs.Prelude.{flat_map, Option, Some, None, slice_get, slice_range}
use Rattle.dsa_regs.specs.declared.Command.{Command}
use Rattle.dsa_book.specs.declared.event.Event.{Event, TheVariants.{Issue}}
use Rattle.dsa_book.specs.declared.event.Actor.{Actor, TheVariants.{Client, Engine, Admin}}
use Rattle.dsa_book.specs.declared.fate.{Fate.{Fate, TheVariants.{Completed}}, FateRow.{FateRow}}
use Rattle.dsa_book.specs.Totals.{actor_of}
use Rattle.dsa_event_text.specs.Text.{command_with_operand}
use Rattle.dsa_scenario.specs.declared.run.Record.{Record, TheVariants.{Stepped, Refused}}
use Rattle.dsa_scenario.specs.Lines.{line_of_text, row_text}
use Rattle.dsa_draw.specs.declared.{marks.Mark.{Mark, TheVariants.{Done, Failed}}, moment.Moment.{Moment}}
use Rattle.dsa_draw.specs.declared.phases.Holder.TheVariants.{Device}
use Rattle.dsa_draw.specs.declared.range.{Extent.{Extent}, StepRange.{StepRange}}
use Rattle.dsa_draw.specs.Ranges.{columns_of, ended_before, moments_in}
use Rattle.dsa_draw.specs.Active.{waits_from, waits_text}
use Rattle.dsa_draw.specs.{Marks.{mark_of}, Bands.{again_text, next_step, phases_text}, Pages.{row_name_text, rect_text, rule_text, mark_text, small_number_text}}

-- ---- commands

-- the place above a column, and there a command with its operand
unfoldable pub command_place_text : ℕ → List ℕ
command_place_text step =
    codes "<text transform=\"translate(" ++ decimal (112 + 14 * step + 10) ++ codes " 76) rotate(-60)\">"

abbrev pub command_name_text : ℕ → Command → List ℕ
command_name_text step command =
    command_place_text step ++ command_with_operand command ++ codes "</text>\n"

abbrev pub event_name_text : ℕ → Event → List ℕ
event_name_text step (Issue command) = command_name_text step command
event_name_text step _ = []

-- of a step that is no command there is none
abbrev pub label_above_text : ℕ → Record → List ℕ
label_above_text step (Stepped made) = event_name_text step made.event
label_above_text step (Refused fault) = []

-- ---- who asked

-- a mark in the row of the clients, or in that of the administrator; engines have rows of their own
abbrev pub asker_mark_text : ℕ → Mark → Actor → List ℕ
asker_mark_text step mark (Client client) = mark_text mark step 96
asker_mark_text step mark Admin = mark_text mark step 112
asker_mark_text step mark (Engine engine) = []

-- a word that is no command is the administrator's
abbrev pub asker_of : Record → Actor
asker_of (Stepped made) = actor_of made.event
asker_of (Refused fault) = Admin

abbrev pub asker_text : ℕ → Record → List ℕ
asker_text step entry = asker_mark_text step (mark_of entry) (asker_of entry)

-- ---- what ended

-- the rows from one number on to before another
abbrev pub rows_between : List FateRow → ℕ → ℕ → List FateRow
rows_between fates from to = slice_range fates (min from (min to (length fates))) (min to (length fates))

abbrev pub fate_mark : Fate → Mark
fate_mark (Completed status) = cond (status == 1) Done Failed
fate_mark _ = Failed

unfoldable pub ended_head_text : ℕ → List ℕ
ended_head_text step = codes "<g><title>step " ++ decimal step ++ codes "\n"

abbrev pub ended_title_text : ℕ → List FateRow → List ℕ
ended_title_text step rows =
    ended_head_text step ++ flat_map (λ row. line_of_text (row_text row)) rows ++ codes "</title>"

-- and how many ended, where one was not alone
abbrev pub ended_text : ℕ → ℕ → List FateRow → Mark → List ℕ
ended_text column step rows mark =
    ended_title_text step rows ++ rect_text (codes "column") column 160 14 16 ++ codes "/>"
    ++ cond (nat_lt 1 (length rows)) (small_number_text column 183 (length rows)) [] ++ mark_text mark column 160
    ++ codes "</g>\n"

-- the mark is that of the last entry that ended; there is none where none did
abbrev pub fates_text_by : ℕ → ℕ → List FateRow → Option FateRow → List ℕ
fates_text_by column step rows None = []
fates_text_by column step rows (Some row) = ended_text column step rows (fate_mark row.fate)

abbrev pub fates_text : ℕ → ℕ → List FateRow → List ℕ
fates_text column step rows = fates_text_by column step rows (slice_get rows (length rows - 1))

-- ---- all of them

-- what a step has there; before it so many entries had ended
abbrev pub marks_of_step_text : List FateRow → ℕ → ℕ → Moment → List ℕ
marks_of_step_text fates column ended moment =
    label_above_text column moment.entry ++ asker_text column moment.entry
    ++ fates_text column moment.number (rows_between fates ended moment.ended)

-- those of each moment, of which the first has this column
abbrev pub marks_above_text : List FateRow → ℕ → ℕ → List Moment → List ℕ
marks_above_text fates column ended [] = []
marks_above_text fates column ended (moment ∷ moments) =
    marks_of_step_text fates column ended moment
    ++ marks_above_text fates (next_step column) moment.ended moments

-- the names of the rows, and the lines below them
unfoldable pub names_above_text : ℕ → List ℕ
names_above_text steps =
    row_name_text (codes "step") 80 ++ row_name_text (codes "clients") 96 ++ row_name_text (codes "administrator") 112
    ++ row_name_text (codes "device") 128 ++ row_name_text (codes "active") 144 ++ row_name_text (codes "fates") 160
    ++ rule_text steps 96 ++ rule_text steps 112 ++ rule_text steps 128 ++ rule_text steps 144 ++ rule_text steps 160

-- and the names again
abbrev pub names_again_text : ℕ → List ℕ
names_again_text steps =
    again_text (codes "clients") None steps 96 ++ again_text (codes "administrator") None steps 112
    ++ again_text (codes "device") None steps 128 ++ again_text (codes "active") None steps 144
    ++ again_text (codes "fates") None steps 160

-- what these steps have there
abbrev pub steps_above_text : StepRange → List FateRow → List Moment → List ℕ
steps_above_text range fates moments =
    marks_above_text fates 0 (ended_before range moments) (moments_in range moments)
    ++ phases_text Device 141 (moments_in range moments)

abbrev pub rows_above_text : Extent → List FateRow → List Moment → List ℕ
rows_above_text extent fates moments =
    names_above_text (columns_of extent) ++ steps_above_text extent.range fates moments
    ++ waits_text extent (waits_from 0 moments) ++ names_again_text (columns_of extent)
