-- The row of the active command: which commands were active, from which step to which, as text.
use Rattle.std.specs.Prelude.{ℕ, ◌+◌, ◌-◌, ◌*◌, cond, nat_le, List, [], ◌∷◌, ◌++◌, length, codes, decimal}
use Rattle.std.specs.Prelude.{Option, Some, None, unwrap_or}
use Rattle.dsa_regs.specs.declared.Command.{Command}
use Rattle.dsa_count.specs.Waits.{active_in, reports_end}
use Rattle.dsa_event_text.specs.Text.{command_with_operand, count_text}
use Rattle.dsa_draw.specs.declared.{active.Wait.{Wait}, moment.Moment.{Moment}, range.Extent.{Extent}}
use Rattle.dsa_draw.specs.{Bands.{next_step}, Labels.{letters_in}, Pages.{box_text, letters_text}, Ranges.{column_of, is_in_range}}

-- the first step in which a poll reported that the command is over; the first of all has this number
abbrev pub end_from : ℕ → List Moment → Option ℕ
end_from step [] = None
end_from step (moment ∷ later) = cond (reports_end moment.entry) (Some step) (end_from (next_step step) later)

-- what was active from this step on, until one of the later steps reported its end
abbrev pub waits_begun : ℕ → List Moment → Option Command → List Wait
waits_begun step later None = []
waits_begun step later (Some command) =
    record { command = command; begin = step; end = end_from (next_step step) later } ∷ []

-- the commands that were active, the first moment's step of this number
abbrev pub waits_from : ℕ → List Moment → List Wait
waits_from step [] = []
waits_from step (moment ∷ later) = waits_begun step later (active_in moment.entry) ++ waits_from (next_step step) later

-- ---- the text

unfoldable pub finished_text : ℕ → List ℕ
finished_text steps = count_text (codes ": finished after ") steps (codes "step") (codes "steps")

-- until which step, and after how many, of a run of so many steps
abbrev pub wait_phrase : ℕ → ℕ → Option ℕ → List ℕ
wait_phrase last begin None =
    count_text (codes ": still active after ") (last - next_step begin) (codes "step") (codes "steps")
wait_phrase last begin (Some end) = codes " to " ++ decimal end ++ finished_text (end - begin)

unfoldable pub wait_words : ℕ → Wait → List ℕ
wait_words last wait =
    command_with_operand wait.command ++ codes ", active from step " ++ decimal wait.begin
    ++ wait_phrase last wait.begin wait.end

abbrev pub wait_title_text : ℕ → Wait → List ℕ
wait_title_text last wait = codes "<title>" ++ wait_words last wait ++ codes "</title>"

-- the command, where there is room for it
abbrev pub wait_label_text : ℕ → ℕ → Command → List ℕ
wait_label_text begin end command =
    cond (nat_le (length (command_with_operand command)) (letters_in (14 * (end - begin))))
    (letters_text begin 155 (command_with_operand command)) []

-- a bar from the column of its issue on to before that of its end
abbrev pub wait_bar_text : Extent → Wait → List ℕ
wait_bar_text extent wait =
    let begin = column_of extent.range wait.begin in
    let end = column_of extent.range (unwrap_or wait.end extent.last) in
    codes "<g>" ++ wait_title_text extent.last wait ++ box_text (codes "active") begin end 146
    ++ wait_label_text begin end wait.command ++ codes "</g>\n"

-- where it was active in a step that is drawn
abbrev pub wait_part_text : Extent → Wait → List ℕ
wait_part_text extent wait =
    cond (is_in_range extent.range wait.begin (unwrap_or wait.end extent.last)) (wait_bar_text extent wait) []

abbrev pub waits_text : Extent → List Wait → List ℕ
waits_text extent [] = []
waits_text extent (wait ∷ waits) = wait_part_text extent wait ++ waits_text extent waits
