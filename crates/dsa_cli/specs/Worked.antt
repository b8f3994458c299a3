-- Words, loads and bytes that the worked rows speak of.
use Rattle.dsa_book.specs.declared.event.Event.TheVariants as event
use Rattle.std.specs.Prelude.{ℕ, Bool, false, List, [], ◌∷◌, ◌++◌, replicate, codes, Option, Some, None}
use Rattle.std.specs.Prelude.{option_and_then, if◌then◌else◌, bytes_eq}
use Rattle.std.specs.Borrow.{Bor}
use Rattle.dsa_desc.specs.declared.Outcome.TheVariants.{Success}
use Rattle.dsa_book.specs.declared.answer.Cause.TheVariants.{AtLimit}
use Rattle.dsa_book.specs.declared.answer.Reply.TheVariants.{Submit, Dispatch, Finish}
use Rattle.dsa_book.specs.declared.answer.SubmitAnswer.TheVariants.{Accepted, Retry}
use Rattle.dsa_book.specs.declared.answer.DispatchAnswer.TheVariants.{Taken}
use Rattle.dsa_book.specs.declared.answer.FinishAnswer.TheVariants.{Done}
use Rattle.dsa_book.specs.declared.event.Kind.TheVariants.{Enqcmd}
use Rattle.dsa_book.specs.declared.event.Portal.TheVariants.{Limited}
use Rattle.dsa_book.specs.declared.event.Step.{Step}
use Rattle.dsa_shared.specs.Seat.{SeatLog}
use Rattle.dsa_scenario.specs.Worked.{record_ticket}
use Rattle.dsa_workers.specs.declared.scripts.ClientStep.{ClientStep}
use Rattle.dsa_chosen.specs.{declared.selection.Selection.{Selection}, Worked.{of_client_and_answers}}
use Rattle.dsa_check.specs.declared.checking.{Check.{Check}, CheckForm.{CheckForm}}
use Rattle.dsa_conform.specs.declared.rendering.Conformance.{Conformance}
use Rattle.dsa_draw.specs.{declared.run.Drawing.{Drawing}, Ranges.{all_steps}}
use Rattle.clap.specs.{Walk.{Row, Text, one_of}, Simple.{subcommand_of}}
use Rattle.clap.specs.declared.builder.value_parser.Reading.TheVariants.{AsWritten}
use Rattle.dsa_explore.specs.declared.search.Bounds.{Bounds}
use Rattle.dsa_exploration.specs.declared.exploration.Form.{Form}
use Rattle.dsa_cli.specs.{declared.options.Workload.{Workload}, CommandLine.{program_app}}
use Rattle.dsa_cli.specs.declared.reports.Report.{Report, TheVariants.{Explore, Show}}
use Rattle.dsa_cli.specs.Threads.{setup_steps, submission_of}

-- the bytes of a Move of 4096 bytes
abbrev pub page_move_bytes : List ℕ
page_move_bytes = replicate 7 0 ++ 0x03 ∷ replicate 25 0 ++ 0x10 ∷ replicate 30 0

-- the receipts of client 0 that was told twice to come again
abbrev pub two_retries : List Step
two_retries =
    record { event = submission_of 0; reply = Submit (Retry AtLimit) } ∷
    record { event = submission_of 0; reply = Submit (Retry AtLimit) } ∷ []

-- such a Move under this PASID
abbrev pub move_under : ℕ → ClientStep
move_under pasid = record { queue = 0; portal = Limited; kind = Enqcmd pasid; bytes = page_move_bytes }

-- ---- numbers of options

-- so many workers on the device that is taken where nothing is said of it
abbrev pub load : ℕ → ℕ → ℕ → ℕ → Workload
load clients engines each turns = record {
  clients = clients;
  engines = engines;
  each = each;
  turns = turns;
  size = 16;
  threshold = 8;
  slots = 4;
  buffers = 32;
}

-- two clients and three engines on a device of these sizes
abbrev pub sized : ℕ → ℕ → ℕ → ℕ → Workload
sized size threshold slots buffers =
    record (load 2 3 5 7) { size = size; threshold = threshold; slots = slots; buffers = buffers }

-- a word that is lent
abbrev pub lent_text : Text → Bor Text
lent_text text = record { ref_ptr = (0, 0); now = text }

-- bounds of a search, and the search
abbrev pub bounds_of : ℕ → ℕ → Bounds
bounds_of states key_bytes = record { states = states; key_bytes = key_bytes }

abbrev pub explore_within : Form → ℕ → ℕ → Report
explore_within form states key_bytes = Explore (record { form = form; bounds = bounds_of states key_bytes })

-- the document of the row of this name, of such a search
abbrev pub show_within : ℕ → ℕ → Text → Report
show_within states key_bytes name = Show (record { bounds = bounds_of states key_bytes; row = lent_text name })

-- ---- a run of one client and two engines

-- a submission of client 0, which was accepted with a ticket of this cell and name
abbrev pub move_taken_in : ℕ → ℕ → Step
move_taken_in cell name =
    record { event = submission_of 0; reply = Submit (Accepted (record_ticket cell name)) }

-- the receipts of the client, which submits three times
abbrev pub three_moves : List Step
three_moves = move_taken_in 3 0 ∷ move_taken_in 5 1 ∷ move_taken_in 4 2 ∷ []

-- the receipts of an engine that takes the entry with this ticket and ends it
abbrev pub entry_worked_off : (engine cell name : ℕ) → List Step
entry_worked_off engine cell name =
    record { event = event.Dispatch engine; reply = Dispatch (Taken (record_ticket cell name) 0) } ∷
    record { event = event.Finish engine (record_ticket cell name) Success; reply = Finish (Done 1) } ∷ []

-- the history of the run: the first two entries end, and the last one is held
abbrev pub steps_of_three_moves : List Step
steps_of_three_moves = setup_steps (load 1 2 3 4) ++ three_moves ++ entry_worked_off 0 3 0 ++ entry_worked_off 1 5 1

-- the seats after it
abbrev pub client_seats_after : List SeatLog
client_seats_after = record { number = 0; receipts = three_moves } ∷ []

abbrev pub engine_seats_after : List SeatLog
engine_seats_after =
    record { number = 0; receipts = entry_worked_off 0 3 0 } ∷
    record { number = 1; receipts = entry_worked_off 1 5 1 } ∷ []

-- ---- words

-- the command `threads` with one option
abbrev pub threads_with : Text → Text → List Text
threads_with option value = codes "threads" ∷ option ∷ value ∷ []

-- the command `trace` with its option
abbrev pub json_trace : List Text
json_trace = codes "trace" ∷ codes "--json" ∷ []

-- the command `trace` with two of its options
abbrev pub seen_json_trace : List Text
seen_json_trace = codes "trace" ∷ codes "--seen" ∷ codes "--json" ∷ []

-- the command `explain` with one option
abbrev pub explain_with : Text → Text → List Text
explain_with option value = codes "explain" ∷ option ∷ value ∷ []

-- the command `explain` with each of its options
abbrev pub chosen_words : List Text
chosen_words = codes "explain" ∷ codes "--name" ∷ codes "3" ∷ codes "--client" ∷ codes "2" ∷
    codes "--only" ∷ codes "retry,idle" ∷ codes "--seen" ∷ []

-- the lines that they choose
abbrev pub lines_of_one_entry : Selection
lines_of_one_entry = record (of_client_and_answers 2 (codes "retry,idle")) { name = Some 3 }

-- the command `explore` with one option
abbrev pub explore_with : Text → Text → List Text
explore_with option value = codes "explore" ∷ option ∷ value ∷ []

-- a command with the option of the run that was seen
abbrev pub words_with_seen : Text → List Text
words_with_seen command = command ∷ codes "--seen" ∷ []

-- the command `check` with its option
abbrev pub strict_words : List Text
strict_words = codes "check" ∷ codes "--strict" ∷ []

-- the text that the option has by these words
abbrev pub value_in : List Text → Text → Option Text
value_in words name = option_and_then (λ found. one_of name found.1) (subcommand_of program_app words)

-- the matches of a command that has one option, with this value
abbrev pub option_row : Text → Text → List Row
option_row name value =
    record { id = name; values = value ∷ []; count = None; source = None; reading = AsWritten } ∷ []

-- the matches of `explain` with these values of its options
abbrev pub explain_rows : Text → Text → Text → Text → List Row
explain_rows name client only seen = option_row (codes "name") name ++ option_row (codes "client") client
    ++ option_row (codes "only") only ++ option_row (codes "seen") seen

-- the matches of `explore` with these values of its options
abbrev pub explore_rows : Text → Text → List Row
explore_rows states key_bytes = option_row (codes "states") states ++ option_row (codes "key-bytes") key_bytes

-- the same, with a row that is to be shown
abbrev pub show_rows : Text → Text → Text → List Row
show_rows states key_bytes name = explore_rows states key_bytes ++ option_row (codes "show") name

-- either of them, with this value of `--json`
abbrev pub json_rows : Text → List Row → List Row
json_rows json rows = rows ++ option_row (codes "json") json

-- the command `explore` with a row and `--json`
abbrev pub json_and_show : List Text
json_and_show = codes "explore" ∷ codes "--json" ∷ codes "--show" ∷ codes "x: accepted" ∷ []

-- the value of the option `--name`, which has none, where `given` alone is given
abbrev pub value_of : Text → Text → Text
value_of given name = if bytes_eq given name then codes "true" else codes "false"

-- the matches of `check` with this option alone
abbrev pub check_rows : Text → List Row
check_rows given = option_row (codes "json") (value_of given (codes "json"))
    ++ option_row (codes "source") (value_of given (codes "source"))
    ++ option_row (codes "color") (value_of given (codes "color"))
    ++ option_row (codes "strict") (value_of given (codes "strict"))

-- the matches of `draw` with these steps
abbrev pub draw_rows : Text → Text → List Row
draw_rows steps seen = option_row (codes "steps") steps ++ option_row (codes "seen") seen

-- a drawing of these steps, and one of all
abbrev pub drawing_of : ℕ → ℕ → Drawing
drawing_of first end = record { steps = record { first = first; end = end } }

abbrev pub whole_drawing : Drawing
whole_drawing = record { steps = all_steps }

-- a check in this form, in which warnings count as no faults
abbrev pub check_in : CheckForm → Check
check_in form = record { is_strict = false; form = form }

-- a comparison that tells the first step that differs, or all
abbrev pub comparison : Bool → Conformance
comparison is_all = record { is_all = is_all }

-- the matches of `conform` with this option alone
abbrev pub conform_rows : Text → List Row
conform_rows given = option_row (codes "all") (value_of given (codes "all"))
    ++ option_row (codes "friendly") (value_of given (codes "friendly"))

-- the matches of `trace` with the option of this form, and this value of `--seen`
abbrev pub trace_rows : Text → Text → List Row
trace_rows form seen = option_row (codes "wide") (value_of form (codes "wide"))
    ++ option_row (codes "changes") (value_of form (codes "changes"))
    ++ option_row (codes "json") (value_of form (codes "json"))
    ++ option_row (codes "chrome") (value_of form (codes "chrome")) ++ option_row (codes "seen") seen
