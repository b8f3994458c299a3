-- The columns of a drawing, as text: one for each step, with what it was asked and what it answered.
use Rattle.std.specs.Prelude.{ℕ, ◌+◌, ◌-◌, ◌*◌, ◌%◌, ◌==◌, cond, List, [], ◌∷◌, ◌++◌, codes, decimal}
use Rattle.std.specs.Prelude.{string_bytes}
use Rattle.dsa_scenario.specs.Lines.{record_text}
use Rattle.dsa_explain_lines.specs.Lines.{asked_words, shown}
use Rattle.dsa_draw.specs.{declared.moment.Moment.{Moment}, Bands.{next_step}, Pages.{rect_text, xml_text}}

-- a step as the line of an explanation has it, behind its number: what was asked and answered, why, and the own names
-- of the entries that it mentions (profile)
abbrev pub step_words : Moment → List ℕ
step_words moment =
    asked_words moment.entry ++ codes " -> " ++ record_text moment.entry
    ++ shown (string_bytes moment.reason) moment.entry ++ string_bytes moment.note

-- ---- columns

-- the title of a column: the step's number and its words
unfoldable pub title_text : Moment → List ℕ
title_text moment = codes "step " ++ decimal moment.number ++ codes ": " ++ xml_text (step_words moment)

-- a column on a page that is so high
abbrev pub column_text : ℕ → ℕ → Moment → List ℕ
column_text height column moment =
    rect_text (codes "column") column 80 14 (height - 80) ++ codes "><title>" ++ title_text moment
    ++ codes "</title></rect>\n"

-- a line, and the number of the step behind it
unfoldable pub grid_text : ℕ → ℕ → List ℕ
grid_text height step =
    codes "<path class=\"grid\" d=\"M" ++ decimal (112 + 14 * step) ++ codes " 80v" ++ decimal (height - 80)
    ++ codes "\"/>\n"

unfoldable pub label_text : ℕ → ℕ → List ℕ
label_text column step =
    codes "<text x=\"" ++ decimal (112 + 14 * column + 2) ++ codes "\" y=\"91\">" ++ decimal step ++ codes "</text>\n"

abbrev pub step_number_text : ℕ → ℕ → ℕ → List ℕ
step_number_text height column step = grid_text height column ++ label_text column step

-- of every fifth step
abbrev pub fifth_text : ℕ → ℕ → ℕ → List ℕ
fifth_text height column step = cond (step % 5 == 0) (step_number_text height column step) []

-- a column for each moment, of which the first has this number
abbrev pub columns_text : ℕ → ℕ → List Moment → List ℕ
columns_text height column [] = []
columns_text height column (moment ∷ moments) =
    fifth_text height column moment.number ++ column_text height column moment
    ++ columns_text height (next_step column) moments
