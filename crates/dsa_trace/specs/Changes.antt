-- What a step changed of what a device shows.
use Rattle.std.specs.Prelude.{ℕ, ◌+◌, List, [], ◌++◌, bytes_eq, codes, flat_map, get_or, if◌then◌else◌, map}
use Rattle.std.specs.Borrow.{Bor}
use Rattle.dsa_base.specs.Numbers.{numbers_below}
use Rattle.dsa_regs.specs.{declared.Caps.{Caps}, Caps.{list_count, list_use}}
use Rattle.dsa_store.specs.Content.{chain}
use Rattle.dsa_book.specs.State.{State}
use Rattle.dsa_device.specs.Running.{Running}
use Rattle.dsa_trace.specs.declared.form.{Trace.{Trace, TheVariants.{Changes}}, Items.{Items}}
use Rattle.dsa_trace.specs.declared.form.Items.TheVariants.{Queues, Engines, Groups}
use Rattle.dsa_trace.specs.{Columns.{command_column, item_count, item_text}, Names.{bracketed_names}}

-- ---- a snapshot of a device: a line for each of its parts (profile)

-- the line of a queue, an engine or a group
abbrev pub item_line : Caps → State → Items → ℕ → List ℕ
item_line caps s kind place = item_text Changes caps s kind place ++ codes "\n"

abbrev pub item_lines : Caps → State → Items → List ℕ
item_lines caps s kind = flat_map (item_line caps s kind) (numbers_below (item_count caps kind))

-- the line of a list, with the names of its entries
abbrev pub list_line : Caps → State → ℕ → List ℕ
list_line caps s number = bracketed_names (list_use caps number) (chain s.work.content number) ++ codes "\n"

abbrev pub lines_of_lists : Caps → State → List ℕ
lines_of_lists caps s = flat_map (list_line caps s) (numbers_below (list_count caps))

abbrev pub line_of_command : State → List ℕ
line_of_command s = command_column Changes s ++ codes "\n"

-- first a line for each queue, engine and group, then for each list, and at last one for the active command
abbrev pub snapshot : Caps → State → List ℕ
snapshot caps s =
    item_lines caps s Queues ++ item_lines caps s Engines ++ item_lines caps s Groups
    ++ lines_of_lists caps s ++ line_of_command s

-- how many queues, engines and groups there are, whose lines are the first
abbrev pub column_count : Caps → ℕ
column_count caps = caps.queues + caps.engines + caps.groups

-- ---- what differs (profile)

-- the line of this number is shown exactly if it is another one than before
abbrev pub shown_line : List (List ℕ) → List (List ℕ) → ℕ → List ℕ
shown_line was now number =
    let line = get_or now number [] in
    if bytes_eq line (get_or was number []) then [] else line

-- of these lines, from the first on, as many as the count
abbrev pub shown_lines : List (List ℕ) → List (List ℕ) → ℕ → ℕ → List ℕ
shown_lines was now first count = flat_map (λ place. shown_line was now (first + place)) (numbers_below count)

-- of the queues, engines and groups
abbrev pub changed_columns : List (List ℕ) → List (List ℕ) → Caps → List ℕ
changed_columns was now caps = shown_lines was now 0 (column_count caps)

-- of the lists and the active command
abbrev pub changed_lists : List (List ℕ) → List (List ℕ) → Caps → List ℕ
changed_lists was now caps = shown_lines was now (column_count caps) (list_count caps + 1)

-- the bytes of texts
abbrev pub line_texts : List (Bor (List ℕ)) → List (List ℕ)
line_texts lines = map (λ line. line.now) lines

-- what is told of a device before a step: in rows of changes its snapshot
abbrev pub told_before_step : Trace → Running → List ℕ
told_before_step Changes now = snapshot now.caps now.state
told_before_step _ now = []
