-- The words of the command line, by clap's own definitions of what words say.
use Rattle.dsa_cli.specs.declared.reports.Report.TheVariants as report
use Rattle.dsa_cli.specs.declared.options.Asked.TheVariants as asked
use Rattle.dsa_check.specs.declared.checking.CheckForm.TheVariants as check_form
use Rattle.dsa_exploration.specs.declared.exploration.Form.TheVariants as exploration
use Rattle.std.specs.Prelude.{◌≡◌, ◌≢◌, ◌⊎◌, ◌<◌, ◌≤◌, ℕ, pos, Bool, true, false, List, [], ◌∷◌, ◌++◌}
use Rattle.std.specs.Prelude.{length, take, fold, codes, decimal, bytes_eq, is_some, if◌then◌else◌}
use Rattle.std.specs.Prelude.{Option, Some, None, option_and_then, option_map, unwrap_or, cond, not, ◌&&◌}
use Rattle.std.specs.{List.{join_by}, Option.{option_map_or}}
use Rattle.std.specs.Io.KnownBytes.{Appends}
use Rattle.std.specs.Str.Parse.{IsNumeral, digits_value, without_leading_plus}
use Rattle.clap.specs.declared.builder.action.ArgAction.TheVariants.{SetTrue}
use Rattle.clap.specs.declared.builder.value_parser.ValueParser.TheVariants.{Signed}
use Rattle.clap.specs.declared.error.kind.ErrorKind.{ErrorKind}
use Rattle.clap.specs.declared.error.kind.ErrorKind.TheVariants.{DisplayHelp, DisplayVersion}
use Rattle.clap.specs.{Walk.{Row, Rule, Text, first_of, one_of}, Faults.{fault_of}, Kinds.{Kinds, IsAmong}}
use Rattle.clap.specs.Simple.{App, new_app, new_rule, on_top, subcommand_of}
use Rattle.clap.specs.Simple.{with_subcommand}
use Rattle.dsa_shared.specs.declared.settle.Totals.{Totals}
use Rattle.dsa_scenario.specs.declared.faults.ScenarioFault.{ScenarioFault}
use Rattle.dsa_trace.specs.declared.form.Trace.{Trace, TheVariants.{Table, Wide, Changes, Json}}
use Rattle.dsa_check.specs.declared.checking.{Check.{Check}, CheckForm.{CheckForm}}
use Rattle.dsa_check.specs.declared.checking.CheckForm.TheVariants.{Lines, Source}
use Rattle.dsa_conform.specs.declared.rendering.Conformance.{Conformance}
use Rattle.dsa_draw.specs.{declared.range.StepRange.{StepRange}, Ranges.{all_steps, range_of_text}}
use Rattle.dsa_chosen.specs.{declared.selection.Selection.{Selection}, Words.{answer_words, unknown_word}}
use Rattle.dsa_explore.specs.declared.{sampling.Walks.{Walks}, search.Bounds.{Bounds}}
use Rattle.dsa_exploration.specs.declared.exploration.Form.{Form}
use Rattle.dsa_serve.specs.Dialogue.{IsAllAnswered, IsLate, IsStopped}
use Rattle.dsa_cli.specs.Reports.{IsReported, IsReportCutShort, IsReportBegun}
use Rattle.dsa_cli.specs.declared.reports.{Report.{Report}, Run.{Run, TheVariants.{Own, Seen}}}
use Rattle.dsa_cli.specs.declared.reports.Written.{Written, TheVariants.{Strict, Friendly}}
use Rattle.dsa_cli.specs.Threads.{IsInRange, AreTotalsOf, totals_text}
use Rattle.dsa_cli.specs.declared.options.Workload.{Workload}
use Rattle.dsa_cli.specs.declared.options.Asked.{Asked}
use Rattle.dsa_cli.specs.declared.options.Asked.TheVariants.{Scenario, Serve, Threads}
use Rattle.dsa_cli.specs.declared.options.Asked.TheVariants.{HighThreshold}
use Rattle.dsa_cli.specs.declared.options.Clash.{Clash}
use Rattle.dsa_cli.specs.declared.options.Clash.TheVariants.{ShowAndJson, WalksAndShow, SeedAlone, ShardAlone}
use Rattle.dsa_cli.specs.declared.options.WrongValue.{WrongValue, TheVariants.{Answer, Range}}
use Rattle.dsa_cli.specs.declared.options.WrongValue.TheVariants as wrong
use Rattle.dsa_cli.specs.{Shards.{shard_of_text, whole_shard}, declared.shard.Shard.{Shard}}

-- the option `--name`, which has a value
abbrev pub text_rule : Text → Rule
text_rule name = record (new_rule name) { long = Some name; value_names = 1 }

-- the option `--name`, whose value is a number from `least` to `most`
abbrev pub number_rule : Text → ℕ → ℕ → Rule
number_rule name least most = record (text_rule name) { parser = Some (Signed (pos least) (pos most)) }

-- the same, whose value is `default` where it is not given
abbrev pub default_rule : Text → ℕ → ℕ → Text → Rule
default_rule name least most default = record (number_rule name least most) { defaults = default ∷ [] }

-- the option `--name`, which has no value
abbrev pub flag_rule : Text → Rule
flag_rule name = record (new_rule name) { long = Some name; action = Some SetTrue }

-- the command `name` with these options
abbrev pub command_app : Text → List Rule → App
command_app name rules = on_top (λ top. record top { rules = rules }) (new_app name)

-- `threads`, with its options (profile)
abbrev pub threads_app : App
threads_app = command_app (codes "threads") (
    default_rule (codes "clients") 1 16 (codes "2") ∷ default_rule (codes "engines") 1 8 (codes "2") ∷
    default_rule (codes "each") 1 1_000 (codes "100") ∷ default_rule (codes "turns") 1 40_000 (codes "10000") ∷
    default_rule (codes "size") 1 1_024 (codes "16") ∷ default_rule (codes "threshold") 1 1_024 (codes "8") ∷
    default_rule (codes "slots") 1 16 (codes "4") ∷ default_rule (codes "buffers") 4 255 (codes "32") ∷ [])

-- the commands that ask for a report, with their options (profile)
abbrev pub explain_app : App
explain_app = command_app (codes "explain") (
    number_rule (codes "name") 0 4_294_967_295 ∷ number_rule (codes "client") 0 65_535 ∷
    text_rule (codes "only") ∷ flag_rule (codes "seen") ∷ [])

abbrev pub trace_app : App
trace_app = command_app (codes "trace") (
    flag_rule (codes "wide") ∷ flag_rule (codes "changes") ∷ flag_rule (codes "json") ∷
    flag_rule (codes "chrome") ∷ flag_rule (codes "seen") ∷ [])

abbrev pub draw_app : App
draw_app = command_app (codes "draw") (text_rule (codes "steps") ∷ flag_rule (codes "seen") ∷ [])

abbrev pub conform_app : App
conform_app = command_app (codes "conform") (flag_rule (codes "all") ∷ flag_rule (codes "friendly") ∷ [])

abbrev pub serve_app : App
serve_app = command_app (codes "serve") (flag_rule (codes "friendly") ∷ [])

abbrev pub explore_app : App
explore_app = command_app (codes "explore") (
    default_rule (codes "states") 1 16_777_216 (codes "100000") ∷
    default_rule (codes "key-bytes") 1 65_536 (codes "256") ∷ text_rule (codes "show") ∷
    number_rule (codes "walks") 1 4_294_967_295 ∷ number_rule (codes "seed") 0 4_294_967_295 ∷
    text_rule (codes "shard") ∷ flag_rule (codes "json") ∷ [])

abbrev pub check_app : App
check_app = command_app (codes "check") (
    flag_rule (codes "json") ∷ flag_rule (codes "source") ∷ flag_rule (codes "color") ∷
    flag_rule (codes "strict") ∷ [])

-- the program, by the words after its name; it has a version (profile)
abbrev pub top_app : App
top_app = on_top (λ top. record top { no_binary_name = true; has_version = true }) (new_app (codes "dsa_run"))

-- the program with its commands (profile)
abbrev pub program_app : App
program_app = fold (λ program command. with_subcommand program command.top) top_app (
    check_app ∷ explain_app ∷ trace_app ∷ command_app (codes "count") [] ∷ draw_app ∷ conform_app ∷
    command_app (codes "expand") [] ∷ explore_app ∷ serve_app ∷ threads_app ∷ [])

-- what clap finds wrong with the words, if anything; to ask for help counts too
abbrev pub faults_of_words : List Text → Kinds
faults_of_words words = fault_of program_app words

-- nothing is wrong with the words, or they ask for help or for the version
abbrev pub IsUnderstood : List Text → Type 0
IsUnderstood words = (faults_of_words words ≡ []) ⊎ IsAmong DisplayHelp (faults_of_words words)
    ⊎ IsAmong DisplayVersion (faults_of_words words)

-- the words name the command `threads`, whose options have these matches, and nothing is wrong with them
abbrev pub NameThreads : List Text → List Row → Type 0
NameThreads words rows = (faults_of_words words ≡ []) × (subcommand_of program_app words ≡ Some (codes "threads", rows))

-- the text that the option has reads as n, where it reads as a number from `least` to `most`
abbrev pub IsNumberOf : List Row → Text → ℕ → ℕ → ℕ → Type 0
IsNumberOf rows name least most n = (text : Text) → one_of name rows ≡ Some text
    → IsNumeral 10 (without_leading_plus text) → least ≤ digits_value 10 (without_leading_plus text)
    → digits_value 10 (without_leading_plus text) ≤ most → n ≡ digits_value 10 (without_leading_plus text)

-- the numbers are those that the options have in these matches
pub record AreNumbersOf (rows : List Row) (load : Workload) : Type 0 where
  pub clients : IsNumberOf rows (codes "clients") 1 16 load.clients
  pub engines : IsNumberOf rows (codes "engines") 1 8 load.engines
  pub each : IsNumberOf rows (codes "each") 1 1_000 load.each
  pub turns : IsNumberOf rows (codes "turns") 1 40_000 load.turns
  pub size : IsNumberOf rows (codes "size") 1 1_024 load.size
  pub threshold : IsNumberOf rows (codes "threshold") 1 1_024 load.threshold
  pub slots : IsNumberOf rows (codes "slots") 1 16 load.slots
  pub buffers : IsNumberOf rows (codes "buffers") 4 255 load.buffers

-- the words ask for workers by these numbers, and nothing else is wrong with them
abbrev pub AskForWorkers : List Text → Workload → Type 0
AskForWorkers words load = (rows : List Row) × NameThreads words rows × AreNumbersOf rows load

-- they ask for a threshold above the size (profile)
abbrev pub AskHighThreshold : List Text → Workload → Type 0
AskHighThreshold words load = AskForWorkers words load × (load.size < load.threshold)

-- the option has a text in these matches, which says the number n, from `least` to `most`
abbrev pub SaysNumber : List Row → Text → ℕ → ℕ → ℕ → Type 0
SaysNumber rows name least most n = (text : Text) × (one_of name rows ≡ Some text)
    × IsNumeral 10 (without_leading_plus text) × (n ≡ digits_value 10 (without_leading_plus text)) × (least ≤ n)
    × (n ≤ most)

-- the matches say a threshold above the size (profile)
abbrev pub SayHighThreshold : List Row → Type 0
SayHighThreshold rows = (size : ℕ) × (threshold : ℕ) × SaysNumber rows (codes "size") 1 1_024 size
    × SaysNumber rows (codes "threshold") 1 1_024 threshold × (size < threshold)

-- what is said of it (profile)
abbrev pub high_threshold_text : Workload → List ℕ
high_threshold_text load = codes "error: invalid value '" ++ decimal load.threshold
    ++ codes "' for '--threshold <NUMBER>': " ++ decimal load.threshold ++ codes " is above the size, "
    ++ decimal load.size ++ codes "\n\nFor more information, try '--help'.\n"

-- what was written is the totals of a run of workers with these numbers
abbrev pub AreTotalsWritten : List Row → Option (List ℕ) → Option (List ℕ) → Type 0
AreTotalsWritten rows old new = (load : Workload) × (totals : Totals) × AreNumbersOf rows load × IsInRange load
    × AreTotalsOf load totals × Appends old new (totals_text totals)

-- what was written is only the first bytes of such totals
abbrev pub AreTotalsCutShort : List Row → Option (List ℕ) → Option (List ℕ) → Type 0
AreTotalsCutShort rows old new = (load : Workload) × (totals : Totals) × (count : ℕ) × AreNumbersOf rows load
    × IsInRange load × AreTotalsOf load totals × (count < length (totals_text totals))
    × Appends old new (take count (totals_text totals))

-- ---- reports

-- this is `on` where the option `--name`, which has no value, is given in these matches, and `off` where it is not
pub record IsChosenBy {A : Type 0} (rows : List Row) (name : Text) (on off this : A) : Type 0 where
  pub given : one_of name rows ≡ Some (codes "true") → this ≡ on
  pub left_out : one_of name rows ≡ Some (codes "false") → this ≡ off

-- this is `form` where the option `--name`, which has no value, is given in these matches, and else it is so
pub record IsGivenElse {A : Type 0} (rows : List Row) (name : Text) (form : A) (IsSo : A → Type 0) (this : A)
    : Type 0 where
  pub given : one_of name rows ≡ Some (codes "true") → this ≡ form
  pub left_out : one_of name rows ≡ Some (codes "false") → IsSo this

-- the form of a trace is the one that the first of its options asks for, where none is that of Chrome (profile)
abbrev pub IsFormOf : List Row → Option Trace → Type 0
IsFormOf rows form = IsGivenElse rows (codes "chrome") None (IsGivenElse rows (codes "json") (Some Json)
    (IsGivenElse rows (codes "changes") (Some Changes)
    (IsGivenElse rows (codes "wide") (Some Wide) (λ other. other ≡ Some Table)))) form

-- the run is the one that was seen where the option `--seen` asks for that
abbrev pub IsRunChosen : List Row → Run → Type 0
IsRunChosen rows run = IsChosenBy rows (codes "seen") Seen Own run

-- the form of a check is the one that the first of its options asks for (profile)
abbrev pub IsCheckFormOf : List Row → CheckForm → Type 0
IsCheckFormOf rows form = IsGivenElse rows (codes "json") check_form.Json
    (IsGivenElse rows (codes "color") (Source true)
    (IsGivenElse rows (codes "source") (Source false) (λ other. other ≡ Lines))) form

-- warnings count as faults where the option `--strict` asks for that
pub record IsCheckOf (rows : List Row) (check : Check) : Type 0 where
  pub strict : IsChosenBy rows (codes "strict") true false check.is_strict
  pub form : IsCheckFormOf rows check.form

-- all steps that differ are told where the option `--all` asks for that
abbrev pub IsConformanceChosen : List Row → Conformance → Type 0
IsConformanceChosen rows conformance = IsChosenBy rows (codes "all") true false conformance.is_all

-- the document, or what comes behind it in a dialogue, is written as `expand` reads it where the option `--friendly`
-- asks for that
abbrev pub IsWrittenIn : List Row → Written → Type 0
IsWrittenIn rows written = IsChosenBy rows (codes "friendly") Friendly Strict written

-- the steps that the text of the option `--steps` names, and all where it is not given
abbrev pub range_asked : List Row → Option StepRange
range_asked rows = option_map_or range_of_text (first_of (codes "steps") rows) (Some all_steps)

-- the number is the one that the option `--name`, which goes up to `most`, says, where it is given in these matches
pub record IsNumberGiven (rows : List Row) (name : Text) (most : ℕ) (number : Option ℕ) : Type 0 where
  pub given : (n : ℕ) → SaysNumber rows name 0 most n → number ≡ Some n
  pub left_out : one_of name rows ≡ None → number ≡ None

-- the first of the words of the option `--only` with which no answer begins
abbrev pub unknown_answer : List Row → Option Text
unknown_answer rows = option_and_then unknown_word (first_of (codes "only") rows)

-- the lines are those that the options of `explain` choose
pub record IsSelectionOf (rows : List Row) (selection : Selection) : Type 0 where
  pub name : IsNumberGiven rows (codes "name") 4_294_967_295 selection.name
  pub client : IsNumberGiven rows (codes "client") 65_535 selection.client
  pub answers : option_map (λ answers. answers.text.now) selection.answers ≡ first_of (codes "only") rows
  pub known : unknown_answer rows ≡ None

-- the bounds of a search are those that the options of `explore` say
pub record AreBoundsOf (rows : List Row) (bounds : Bounds) : Type 0 where
  pub states : IsNumberOf rows (codes "states") 1 16_777_216 bounds.states
  pub key_bytes : IsNumberOf rows (codes "key-bytes") 1 65_536 bounds.key_bytes

-- the option `--json` is given in these matches of `explore`
abbrev pub is_json_given : List Row → Bool
is_json_given rows = option_map_or (λ text. bytes_eq text (codes "true")) (first_of (codes "json") rows) false

-- the form of a search that the option asks for
abbrev pub search_form : List Row → Form
search_form rows = if is_json_given rows then exploration.Json else exploration.Table

-- the option `--name` has a text in these matches
abbrev pub is_text_given : List Row → Text → Bool
is_text_given rows name = is_some (first_of name rows)

-- the first two options that do not go together, by which of them are given (profile)
abbrev pub clash_by : (show json walks seed shard : Bool) → Option Clash
clash_by show json walks seed shard =
    cond (show && json) (Some ShowAndJson) (cond (walks && show) (Some WalksAndShow)
    (cond (not walks && seed) (Some SeedAlone) (cond (not walks && shard) (Some ShardAlone) None)))

-- those of `explore` in these matches
abbrev pub clash_in : List Row → Option Clash
clash_in rows = clash_by (is_text_given rows (codes "show")) (is_json_given rows) (is_text_given rows (codes "walks"))
    (is_text_given rows (codes "seed")) (is_text_given rows (codes "shard"))

-- the shard that the text of the option `--shard` names, and all walks where it is not given
abbrev pub shard_asked : List Row → Option Shard
shard_asked rows = option_map_or shard_of_text (first_of (codes "shard") rows) (Some whole_shard)

-- the walks are those that the options of `explore` say; the seed is 0 where none is given
pub record AreWalksGiven (rows : List Row) (walks : Walks) : Type 0 where
  pub count : IsNumberOf rows (codes "walks") 1 4_294_967_295 walks.count
  pub seed : (given : Option ℕ) × IsNumberGiven rows (codes "seed") 4_294_967_295 given
      × (walks.seed ≡ unwrap_or given 0)
  pub shard : shard_asked rows ≡ Some (record { number = walks.shard; count = walks.shards })

-- the command with these matches asks for the report (profile)
abbrev pub IsAskedBy : Text × List Row → Report → Type 0
IsAskedBy found (report.Check check) = (found.0 ≡ codes "check") × IsCheckOf found.1 check
IsAskedBy found (report.Explain selection run) =
    (found.0 ≡ codes "explain") × IsSelectionOf found.1 selection × IsRunChosen found.1 run
IsAskedBy found (report.Trace form run) =
    (found.0 ≡ codes "trace") × IsFormOf found.1 (Some form) × IsRunChosen found.1 run
IsAskedBy found (report.Chrome run) = (found.0 ≡ codes "trace") × IsFormOf found.1 None × IsRunChosen found.1 run
IsAskedBy found report.Count = found.0 ≡ codes "count"
IsAskedBy found (report.Draw drawing run) =
    (found.0 ≡ codes "draw") × (range_asked found.1 ≡ Some drawing.steps) × IsRunChosen found.1 run
IsAskedBy found (report.Conform conformance written) =
    (found.0 ≡ codes "conform") × IsConformanceChosen found.1 conformance × IsWrittenIn found.1 written
IsAskedBy found report.Expand = found.0 ≡ codes "expand"
IsAskedBy found (report.Explore exploring) =
    (found.0 ≡ codes "explore") × AreBoundsOf found.1 exploring.bounds × (first_of (codes "show") found.1 ≡ None)
    × (exploring.form ≡ search_form found.1) × (is_text_given found.1 (codes "walks") ≡ false)
    × (clash_in found.1 ≡ None)
IsAskedBy found (report.Show showing) =
    (found.0 ≡ codes "explore") × AreBoundsOf found.1 showing.bounds
    × (first_of (codes "show") found.1 ≡ Some showing.row.now) × (clash_in found.1 ≡ None)
IsAskedBy found (report.Sample sampling) =
    (found.0 ≡ codes "explore") × AreWalksGiven found.1 sampling.walks × (is_text_given found.1 (codes "walks") ≡ true)
    × (sampling.form ≡ search_form found.1) × (clash_in found.1 ≡ None)

-- the command is one that asks for a report
abbrev pub IsReportName : Text → Type 0
IsReportName name =
    (name ≡ codes "check") ⊎ (name ≡ codes "explain") ⊎ (name ≡ codes "trace") ⊎ (name ≡ codes "count")
    ⊎ (name ≡ codes "draw") ⊎ (name ≡ codes "conform") ⊎ (name ≡ codes "expand")
    ⊎ (name ≡ codes "explore")

-- the words name a command that asks for a report, with these matches, and nothing is wrong with them
abbrev pub NameReport : List Text → Text × List Row → Type 0
NameReport words found =
    (faults_of_words words ≡ []) × (subcommand_of program_app words ≡ Some found) × IsReportName found.0

-- all of the report that the command asks for was written; then this fault is told
abbrev pub IsReportWritten : Text × List Row → Option ScenarioFault → Option (List ℕ) → Option (List ℕ)
    → Option (List ℕ) → Option (List ℕ) → Type 0
IsReportWritten found fault had left held holds =
    (report : Report) × IsAskedBy found report × IsReported report fault had left held holds

-- only the first bytes of it were written
abbrev pub IsReportCut : Text × List Row → Option (List ℕ) → Option (List ℕ) → Option (List ℕ) → Option (List ℕ)
    → Type 0
IsReportCut found had left held holds =
    (report : Report) × IsAskedBy found report × IsReportCutShort report had left held holds

-- only whole rows of it were written
abbrev pub IsReportLeft : Text × List Row → Option (List ℕ) → Option (List ℕ) → Option (List ℕ) → Option (List ℕ)
    → Type 0
IsReportLeft found had left held holds =
    (report : Report) × IsAskedBy found report × IsReportBegun report had left held holds

-- ---- what is asked

-- the command that the words name
abbrev pub command_in : List Text → Option Text
command_in words = option_map (λ found. found.0) (subcommand_of program_app words)

-- the words name no command, and nothing is wrong with them, as where there are none
abbrev pub NameNothing : List Text → Type 0
NameNothing words = (faults_of_words words ≡ []) × (command_in words ≡ None)

-- the words name the command `serve`, whose options have these matches, and nothing is wrong with them
abbrev pub NameServe : List Text → List Row → Type 0
NameServe words rows = (faults_of_words words ≡ []) × (subcommand_of program_app words ≡ Some (codes "serve", rows))

abbrev pub has_friendly_form : Written → Bool
has_friendly_form Friendly = true
has_friendly_form Strict = false

-- the reader gave all of a dialogue whose lines are written so, and all answers to it were written
abbrev pub IsServedIn : Written → Option (List ℕ) → Option (List ℕ) → Option (List ℕ) → Option (List ℕ) → Type 0
IsServedIn written had left held holds = IsAllAnswered (has_friendly_form written) had left held holds

-- a fault stopped it: where it is none that may come late, before anything was written
abbrev pub IsServeStoppedIn : {W : Type 0} → Written → ScenarioFault → Option (List ℕ) → Option (List ℕ)
    → (W → Option (List ℕ)) → W → W → Type 0
IsServeStoppedIn written fault had left contents old new =
    IsStopped (has_friendly_form written) fault had left (contents old) (contents new) × (¬ IsLate fault → new ≡ old)

-- the same of a dialogue whose lines are written as the options with these matches say
abbrev pub IsServed : List Row → Option (List ℕ) → Option (List ℕ) → Option (List ℕ) → Option (List ℕ) → Type 0
IsServed rows had left held holds =
    (written : Written) × IsWrittenIn rows written × IsServedIn written had left held holds

abbrev pub IsServeStopped : {W : Type 0} → List Row → ScenarioFault → Option (List ℕ) → Option (List ℕ)
    → (W → Option (List ℕ)) → W → W → Type 0
IsServeStopped rows fault had left contents old new =
    (written : Written) × IsWrittenIn rows written × IsServeStoppedIn written fault had left contents old new

-- the words ask for no input: something is wrong with them, or they name `threads`; to ask for help counts too
abbrev pub AskNoInput : List Text → Type 0
AskNoInput words = (faults_of_words words ≢ []) ⊎ ((rows : List Row) × NameThreads words rows)

-- the command has this value, of an option: no answer begins with the word, or the text names no steps, or no shard; or
-- it has two options that do not go together, or one without the other that it needs (profile)
abbrev pub IsWrongIn : Text × List Row → WrongValue → Type 0
IsWrongIn found (Answer word) = (found.0 ≡ codes "explain") × (unknown_answer found.1 ≡ Some word.now)
IsWrongIn found (Range text) = (found.0 ≡ codes "draw") × (first_of (codes "steps") found.1 ≡ Some text.now)
    × (range_of_text text.now ≡ None)
IsWrongIn found (wrong.Clash clash) = (found.0 ≡ codes "explore") × (clash_in found.1 ≡ Some clash)
IsWrongIn found (wrong.Shard text) = (found.0 ≡ codes "explore") × (first_of (codes "shard") found.1 ≡ Some text.now)
    × (shard_of_text text.now ≡ None) × (is_text_given found.1 (codes "walks") ≡ true)
    × (first_of (codes "show") found.1 ≡ None) × (clash_in found.1 ≡ None)

abbrev pub AskWrongValue : List Text → WrongValue → Type 0
AskWrongValue words value = (found : Text × List Row) × NameReport words found × IsWrongIn found value

-- what is said of a word, with all words with which answers begin (profile)
abbrev pub unknown_answer_text : Text → List ℕ
unknown_answer_text word = codes "error: invalid value '" ++ word
    ++ (codes "' for '--only <WORDS>'\n  [possible values: " ++ join_by (λ known. known) (codes ", ") answer_words
    ++ codes "]\n\nFor more information, try '--help'.\n")

-- what is said of a text (profile)
abbrev pub unknown_range_text : Text → List ℕ
unknown_range_text text = codes "error: invalid value '" ++ text
    ++ codes "' for '--steps <A..B>': a range as 3..9, 3.. or ..9 is wanted\n\nFor more information, try '--help'.\n"

-- which options do not go together (profile)
abbrev pub clash_words : Clash → List ℕ
clash_words ShowAndJson = codes "--show <ROW>' cannot be used with '--json"
clash_words WalksAndShow = codes "--walks <NUMBER>' cannot be used with '--show <ROW>"
clash_words SeedAlone = codes "--seed <NUMBER>' cannot be used without '--walks <NUMBER>"
clash_words ShardAlone = codes "--shard <I/K>' cannot be used without '--walks <NUMBER>"

-- what is said of that (profile)
abbrev pub clash_text : List ℕ → List ℕ
clash_text words = codes "error: the argument '" ++ words ++ codes "'\n\nFor more information, try '--help'.\n"

-- what is said of a text that names no shard (profile)
abbrev pub unknown_shard_text : Text → List ℕ
unknown_shard_text text = codes "error: invalid value '" ++ text
    ++ codes "' for '--shard <I/K>': a shard as 0/4 is wanted\n\nFor more information, try '--help'.\n"

abbrev pub wrong_value_text : WrongValue → List ℕ
wrong_value_text (Answer word) = unknown_answer_text word.now
wrong_value_text (Range text) = unknown_range_text text.now
wrong_value_text (wrong.Clash clash) = clash_text (clash_words clash)
wrong_value_text (wrong.Shard text) = unknown_shard_text text.now

-- something is wrong with the words
abbrev pub IsMistaken : List Text → Type 0
IsMistaken words = ((kind : ErrorKind) × IsAmong kind (faults_of_words words) × (kind ≢ DisplayHelp)
    × (kind ≢ DisplayVersion)) ⊎ ((load : Workload) × AskHighThreshold words load)
    ⊎ ((value : WrongValue) × AskWrongValue words value)

-- what a command that asks for a report asks for: for the report, or with a value that means nothing
abbrev pub AsksBy : Text × List Row → Asked → Type 0
AsksBy found (asked.Report report) = IsAskedBy found report
AsksBy found (asked.WrongValue value) = IsWrongIn found value
AsksBy found _ = ⊥

-- what the words ask for: workers, of whom it may be too much, a report, a dialogue, or else a scenario
abbrev pub AsksFor : List Text → Asked → Type 0
AsksFor words Scenario = (name : Text) → IsReportName name ⊎ (name ≡ codes "serve") ⊎ (name ≡ codes "threads")
    → command_in words ≢ Some name
AsksFor words (asked.Report report) = (found : Text × List Row) × NameReport words found × IsAskedBy found report
AsksFor words (asked.WrongValue value) = AskWrongValue words value
AsksFor words (Serve written) = (rows : List Row) × NameServe words rows × IsWrittenIn rows written
AsksFor words (Threads load) = AskForWorkers words load
AsksFor words (HighThreshold load) = AskHighThreshold words load
