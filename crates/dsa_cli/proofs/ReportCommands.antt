-- Commands that ask for a report, and words that name none.
use Rattle.dsa_cli.specs.declared.options.Asked.TheVariants as asked
use Rattle.dsa_cli.specs.declared.reports.Report.TheVariants as report
use Rattle.std.proofs.Common.{◌≡◌, ◌<◌, ◌≤◌, ◌∙◌, ◌⊎◌, inl, inr, ℕ, List, Some, None, codes, option_map}
use Rattle.std.proofs.Common.{get_or, refl, Result, Ok}
use Rattle.std.proofs.Common.{[], Option, unwrap_or, sym, ap, subst, arith, true, false}
use Rattle.std.specs.Prelude.{is_some}
use Rattle.std.proofs.lemmas.Option.{same_Some}
use Rattle.std.specs.{Option.{option_map_or}, Str.Parse.{digits_value, without_leading_plus}}
use Rattle.clap.specs.Walk.{Row, Text}
use Rattle.dsa_cli.specs.declared.{options.{Asked.{Asked}, Workload.{Workload}}, reports.Report.{Report}}
use Rattle.dsa_cli.specs.declared.options.{Clash.{Clash}, WrongValue.{WrongValue, TheVariants.{Answer, Range}}}
use Rattle.dsa_cli.specs.declared.options.WrongValue.TheVariants as wrong_value
use Rattle.dsa_cli.specs.Shards.{shard_of_text, whole_shard}
use Rattle.dsa_draw.specs.Ranges.{all_steps, range_of_text}
use Rattle.dsa_cli.specs.CommandLine.{AreNumbersOf, AskWrongValue, AsksBy, AsksFor, IsAskedBy}
use Rattle.dsa_cli.specs.CommandLine.{IsNumberOf, IsWrongIn, NameNothing, clash_text, clash_words, unknown_shard_text}
use Rattle.dsa_cli.specs.CommandLine.{NameReport, unknown_answer_text, unknown_range_text, wrong_value_text}
use Rattle.dsa_cli.specs.CommandLine.{NameServe, NameThreads, SayHighThreshold, SaysNumber, command_in}
use Rattle.dsa_cli.specs.{Reports.{text_if_too_long}, Threads.{IsAskedInRange}}
use Rattle.dsa_cli.proofs.ReportNames.{name_in, same_first, same_second, no_threads}

-- a command is named, or none
no_name : (words : List Text) (name : Text) → NameNothing words → command_in words ≡ Some name → ⊥
no_name words name nothing named =
    let both : None ≡ Some name = sym nothing.1 ∙ named in
    cc

-- words name one command
pub same_found : (words : List Text) (first second : Text × List Row) → NameReport words first
    → NameReport words second → first ≡ second
same_found words first second one other =
    let both : Some first ≡ Some second = sym one.1 ∙ other.1 in
    cc

-- words that name nothing ask for a scenario
pub names_nothing : (words : List Text) (asks : Asked) → NameNothing words → AsksFor words asks → asks ≡ asked.Scenario
names_nothing words asked.Scenario nothing is = refl
names_nothing words (asked.Report report) nothing is =
    absurd (no_name words is.0.0 nothing (ap (option_map (λ (f : Text × List Row). f.0)) is.1.1))
names_nothing words (asked.WrongValue value) nothing is =
    absurd (no_name words is.0.0 nothing (ap (option_map (λ (f : Text × List Row). f.0)) is.1.1))
names_nothing words (asked.Serve written) nothing is =
    absurd (no_name words (codes "serve") nothing (ap (option_map (λ (f : Text × List Row). f.0)) is.1.1))
names_nothing words (asked.Threads load) nothing is =
    absurd (no_name words (codes "threads") nothing (ap (option_map (λ (f : Text × List Row). f.0)) is.1.1))
names_nothing words (asked.HighThreshold load) nothing is =
    absurd (no_name words (codes "threads") nothing (ap (option_map (λ (f : Text × List Row). f.0)) is.0.1.1))

-- words that are none, or name nothing, ask for nothing else
pub not_asked : {A E : Type 0} (words : List Text) (count : ℕ) (asks is : Asked) → AsksFor words asks
    → (count ≡ 0 → ◌≡◌ {A = Result Asked E} (Ok asks) (Ok asked.Scenario)) → asks ≡ is → ¬ (is ≡ asked.Scenario)
    → (count ≡ 0) ⊎ NameNothing words → A
not_asked words count asks is told none same other (inl empty) =
    let scenario = none empty in
    absurd (other cc)
not_asked words count asks is told none same other (inr nothing) =
    absurd (other (sym same ∙ names_nothing words asks nothing told))

-- words that are not none name nothing, if they are or do so
pub named : (words : List Text) (count : ℕ) → ¬ (count ≡ 0) → (count ≡ 0) ⊎ NameNothing words → NameNothing words
named words count some (inl empty) = absurd (some empty)
named words count some (inr nothing) = nothing

-- ---- words that name a command that asks for a report

-- they ask for what the command asks for
pub asks_by : (words : List Text) (found : Text × List Row) → NameReport words found → (asks : Asked)
    → AsksBy found asks → AsksFor words asks
asks_by words found named (asked.Report report) by = (found, named, by)
asks_by words found named (asked.WrongValue value) by = (found, named, by)
asks_by words found named _ by = absurd by

pub in_range : (found : Text × List Row) (asks : Asked) → AsksBy found asks → IsAskedInRange asks
in_range found (asked.Report report) by = tt
in_range found (asked.WrongValue value) by = tt
in_range found _ by = absurd by

-- they ask for no report where a value is wrong
no_report_of : (found : Text × List Row) (value : WrongValue) (report : Report) → IsWrongIn found value
    → IsAskedBy found report → ⊥
no_report_of found (Answer word) (report.Check check) wrong by = omega (arith, same_first (sym wrong.0 ∙ by.0))
no_report_of found (Answer word) (report.Explain selection run) wrong by =
    let both : Some word.now ≡ None = sym wrong.1 ∙ by.1.known in
    cc
no_report_of found (Answer word) (report.Trace form run) wrong by = omega (arith, same_first (sym wrong.0 ∙ by.0))
no_report_of found (Answer word) (report.Chrome run) wrong by = omega (arith, same_first (sym wrong.0 ∙ by.0))
no_report_of found (Answer word) report.Count wrong by = omega (arith, same_first (sym wrong.0 ∙ by))
no_report_of found (Answer word) (report.Draw drawing run) wrong by = omega (arith, same_first (sym wrong.0 ∙ by.0))
no_report_of found (Answer word) (report.Conform conformance written) wrong by =
    omega (arith, same_first (sym wrong.0 ∙ by.0))
no_report_of found (Answer word) report.Expand wrong by =
    let both : codes "explain" ≡ codes "expand" = sym wrong.0 ∙ by in
    cc
no_report_of found (Answer word) (report.Explore exploring) wrong by =
    let both : codes "explain" ≡ codes "explore" = sym wrong.0 ∙ by.0 in
    omega (arith, ap (λ (t : Text). get_or t 4 0) both)
no_report_of found (Answer word) (report.Show showing) wrong by =
    let both : codes "explain" ≡ codes "explore" = sym wrong.0 ∙ by.0 in
    omega (arith, ap (λ (t : Text). get_or t 4 0) both)
no_report_of found (Answer word) (report.Sample sampling) wrong by =
    let both : codes "explain" ≡ codes "explore" = sym wrong.0 ∙ by.0 in
    omega (arith, ap (λ (t : Text). get_or t 4 0) both)
no_report_of found (Range text) (report.Check check) wrong by = omega (arith, same_first (sym wrong.0 ∙ by.0))
no_report_of found (Range text) (report.Explain selection run) wrong by = omega (arith, same_first (sym wrong.0 ∙ by.0))
no_report_of found (Range text) (report.Trace form run) wrong by = omega (arith, same_first (sym wrong.0 ∙ by.0))
no_report_of found (Range text) (report.Chrome run) wrong by = omega (arith, same_first (sym wrong.0 ∙ by.0))
no_report_of found (Range text) report.Count wrong by = omega (arith, same_first (sym wrong.0 ∙ by))
no_report_of found (Range text) (report.Draw drawing run) wrong by =
    let none : None ≡ Some drawing.steps =
    sym (ap (λ o. option_map_or range_of_text o (Some all_steps)) wrong.1 ∙ wrong.2) ∙ by.1 in
    cc
no_report_of found (Range text) (report.Conform conformance written) wrong by =
    omega (arith, same_first (sym wrong.0 ∙ by.0))
no_report_of found (Range text) report.Expand wrong by = omega (arith, same_first (sym wrong.0 ∙ by))
no_report_of found (Range text) (report.Explore exploring) wrong by = omega (arith, same_first (sym wrong.0 ∙ by.0))
no_report_of found (Range text) (report.Show showing) wrong by = omega (arith, same_first (sym wrong.0 ∙ by.0))
no_report_of found (Range text) (report.Sample sampling) wrong by = omega (arith, same_first (sym wrong.0 ∙ by.0))
no_report_of found (wrong_value.Clash clash) (report.Check check) wrong by = omega (arith, same_first (sym wrong.0 ∙ by.0))
no_report_of found (wrong_value.Clash clash) (report.Explain selection run) wrong by =
    let both : codes "explore" ≡ codes "explain" = sym wrong.0 ∙ by.0 in
    omega (arith, ap (λ (t : Text). get_or t 4 0) both)
no_report_of found (wrong_value.Clash clash) (report.Trace form run) wrong by = omega (arith, same_first (sym wrong.0 ∙ by.0))
no_report_of found (wrong_value.Clash clash) (report.Chrome run) wrong by = omega (arith, same_first (sym wrong.0 ∙ by.0))
no_report_of found (wrong_value.Clash clash) report.Count wrong by = omega (arith, same_first (sym wrong.0 ∙ by))
no_report_of found (wrong_value.Clash clash) (report.Draw drawing run) wrong by = omega (arith, same_first (sym wrong.0 ∙ by.0))
no_report_of found (wrong_value.Clash clash) (report.Conform conformance written) wrong by =
    omega (arith, same_first (sym wrong.0 ∙ by.0))
no_report_of found (wrong_value.Clash clash) report.Expand wrong by =
    let both : codes "explore" ≡ codes "expand" = sym wrong.0 ∙ by in
    cc
no_report_of found (wrong_value.Clash clash) (report.Explore exploring) wrong by =
    let both : Some clash ≡ None = sym wrong.1 ∙ by.5 in
    cc
no_report_of found (wrong_value.Clash clash) (report.Show showing) wrong by =
    let both : Some clash ≡ None = sym wrong.1 ∙ by.3 in
    cc
no_report_of found (wrong_value.Clash clash) (report.Sample sampling) wrong by =
    let both : Some clash ≡ None = sym wrong.1 ∙ by.4 in
    cc
no_report_of found (wrong_value.Shard text) (report.Check check) wrong by = omega (arith, same_first (sym wrong.0 ∙ by.0))
no_report_of found (wrong_value.Shard text) (report.Explain selection run) wrong by =
    let both : codes "explore" ≡ codes "explain" = sym wrong.0 ∙ by.0 in
    omega (arith, ap (λ (t : Text). get_or t 4 0) both)
no_report_of found (wrong_value.Shard text) (report.Trace form run) wrong by = omega (arith, same_first (sym wrong.0 ∙ by.0))
no_report_of found (wrong_value.Shard text) (report.Chrome run) wrong by = omega (arith, same_first (sym wrong.0 ∙ by.0))
no_report_of found (wrong_value.Shard text) report.Count wrong by = omega (arith, same_first (sym wrong.0 ∙ by))
no_report_of found (wrong_value.Shard text) (report.Draw drawing run) wrong by = omega (arith, same_first (sym wrong.0 ∙ by.0))
no_report_of found (wrong_value.Shard text) (report.Conform conformance written) wrong by =
    omega (arith, same_first (sym wrong.0 ∙ by.0))
no_report_of found (wrong_value.Shard text) report.Expand wrong by =
    let both : codes "explore" ≡ codes "expand" = sym wrong.0 ∙ by in
    cc
no_report_of found (wrong_value.Shard text) (report.Explore exploring) wrong by =
    let both : true ≡ false = sym wrong.3 ∙ by.4 in
    cc
no_report_of found (wrong_value.Shard text) (report.Show showing) wrong by =
    let both : None ≡ Some showing.row.now = sym wrong.4 ∙ by.2 in
    cc
no_report_of found (wrong_value.Shard text) (report.Sample sampling) wrong by =
    let none = sym (ap (λ o. option_map_or shard_of_text o (Some whole_shard)) wrong.1 ∙ wrong.2) ∙ by.1.shard in
    cc

-- what the words name, where a value is wrong
no_other_name : (found : Text × List Row) (value : WrongValue) (name : Text) → 114 < get_or name 0 0
    → IsWrongIn found value → name ≡ found.0 → ⊥
no_other_name found (Answer word) name high wrong same = omega (arith, same_first (same ∙ wrong.0), high)
no_other_name found (Range text) name high wrong same = omega (arith, same_first (same ∙ wrong.0), high)
no_other_name found (wrong_value.Clash clash) name high wrong same = omega (arith, same_first (same ∙ wrong.0), high)
no_other_name found (wrong_value.Shard text) name high wrong same = omega (arith, same_first (same ∙ wrong.0), high)

-- a command has one wrong value at most
same_text : (found : Text × List Row) (one other : WrongValue) → IsWrongIn found one → IsWrongIn found other
    → wrong_value_text one ≡ wrong_value_text other
same_text found (Answer one) (Answer other) is wrong =
    ap (λ o. unknown_answer_text (unwrap_or o [])) (sym is.1 ∙ wrong.1)
same_text found (Range one) (Range other) is wrong =
    ap (λ o. unknown_range_text (unwrap_or o [])) (sym is.1 ∙ wrong.1)
same_text found (wrong_value.Clash one) (wrong_value.Clash other) is wrong =
    let both : Some one ≡ Some other = sym is.1 ∙ wrong.1 in
    ap (λ c. clash_text (clash_words c)) (same_Some one other both)
same_text found (wrong_value.Shard one) (wrong_value.Shard other) is wrong =
    ap (λ o. unknown_shard_text (unwrap_or o [])) (sym is.1 ∙ wrong.1)
same_text found (wrong_value.Clash one) (wrong_value.Shard other) is wrong =
    let both : Some one ≡ None = sym is.1 ∙ wrong.5 in
    absurd cc
same_text found (wrong_value.Shard one) (wrong_value.Clash other) is wrong =
    let both : None ≡ Some other = sym is.5 ∙ wrong.1 in
    absurd cc
same_text found (wrong_value.Clash one) (Range other) is wrong = absurd (omega (arith, same_first (sym is.0 ∙ wrong.0)))
same_text found (Range one) (wrong_value.Clash other) is wrong = absurd (omega (arith, same_first (sym is.0 ∙ wrong.0)))
same_text found (wrong_value.Clash one) (Answer other) is wrong =
    let both : codes "explore" ≡ codes "explain" = sym is.0 ∙ wrong.0 in
    absurd (omega (arith, ap (λ (t : Text). get_or t 4 0) both))
same_text found (Answer one) (wrong_value.Clash other) is wrong =
    let both : codes "explain" ≡ codes "explore" = sym is.0 ∙ wrong.0 in
    absurd (omega (arith, ap (λ (t : Text). get_or t 4 0) both))
same_text found (wrong_value.Shard one) (Range other) is wrong = absurd (omega (arith, same_first (sym is.0 ∙ wrong.0)))
same_text found (Range one) (wrong_value.Shard other) is wrong = absurd (omega (arith, same_first (sym is.0 ∙ wrong.0)))
same_text found (wrong_value.Shard one) (Answer other) is wrong =
    let both : codes "explore" ≡ codes "explain" = sym is.0 ∙ wrong.0 in
    absurd (omega (arith, ap (λ (t : Text). get_or t 4 0) both))
same_text found (Answer one) (wrong_value.Shard other) is wrong =
    let both : codes "explain" ≡ codes "explore" = sym is.0 ∙ wrong.0 in
    absurd (omega (arith, ap (λ (t : Text). get_or t 4 0) both))
same_text found (Answer one) (Range other) is wrong = absurd (omega (arith, same_first (sym is.0 ∙ wrong.0)))
same_text found (Range one) (Answer other) is wrong = absurd (omega (arith, same_first (sym is.0 ∙ wrong.0)))

-- words that ask with a wrong value ask for nothing else
pub asks_wrong : (words : List Text) (asks : Asked) (value : WrongValue) → AskWrongValue words value
    → AsksFor words asks
    → (given : WrongValue) × (asks ≡ asked.WrongValue given) × (wrong_value_text given ≡ wrong_value_text value)
asks_wrong words asked.Scenario value wrong is =
    absurd (is wrong.0.0 (inl wrong.1.2) (ap (option_map (λ (f : Text × List Row). f.0)) wrong.1.1))
asks_wrong words (asked.Report report) value wrong is =
    let same = same_found words wrong.0 is.0 wrong.1 is.1 in
    absurd (no_report_of is.0 value report (subst (λ f. IsWrongIn f value) same wrong.2) is.2)
asks_wrong words (asked.WrongValue given) value wrong is =
    let same = same_found words is.0 wrong.0 is.1 wrong.1 in
    (given, refl, same_text wrong.0 given value (subst (λ f. IsWrongIn f given) same is.2) wrong.2)
asks_wrong words (asked.Serve written) value wrong is =
    absurd (no_other_name wrong.0 value (codes "serve") (omega arith) wrong.2
    (ap name_in (sym is.1.1 ∙ wrong.1.1)))
asks_wrong words (asked.Threads load) value wrong is =
    absurd (no_other_name wrong.0 value (codes "threads") (omega arith) wrong.2
    (ap name_in (sym is.1.1 ∙ wrong.1.1)))
asks_wrong words (asked.HighThreshold load) value wrong is =
    absurd (no_other_name wrong.0 value (codes "threads") (omega arith) wrong.2
    (ap name_in (sym is.0.1.1 ∙ wrong.1.1)))

-- ---- words that name `threads`

-- `check` asks for no report that has no text of a document that is too long
pub other_name : (found : Text × List Row) (report : Report) → IsAskedBy found report
    → text_if_too_long report ≡ None → found.0 ≡ codes "check" → ⊥
other_name found (report.Check check) by none same = cc
other_name found (report.Explain selection run) by none same = omega (arith, same_first (sym by.0 ∙ same))
other_name found (report.Trace form run) by none same = omega (arith, same_first (sym by.0 ∙ same))
other_name found (report.Chrome run) by none same = omega (arith, same_first (sym by.0 ∙ same))
other_name found report.Count by none same = omega (arith, same_second (sym by ∙ same))
other_name found (report.Draw drawing run) by none same = omega (arith, same_first (sym by.0 ∙ same))
other_name found (report.Conform conformance written) by none same = omega (arith, same_second (sym by.0 ∙ same))
other_name found report.Expand by none same = omega (arith, same_first (sym by ∙ same))
other_name found (report.Explore exploring) by none same = omega (arith, same_first (sym by.0 ∙ same))
other_name found (report.Show showing) by none same = omega (arith, same_first (sym by.0 ∙ same))
other_name found (report.Sample sampling) by none same = omega (arith, same_first (sym by.0 ∙ same))

-- they name it whatever their matches are
command : (words : List Text) (rows : List Row) → NameThreads words rows → command_in words ≡ Some (codes "threads")
command words rows named = ap (option_map (λ (f : Text × List Row). f.0)) named.1

-- the matches of a command
abbrev rows_in : Option (Text × List Row) → List Row
rows_in found = unwrap_or (option_map (λ (p : Text × List Row). p.1) found) []

-- they have one list of matches
same_rows : (words : List Text) (rows others : List Row) → NameThreads words rows → NameThreads words others
    → others ≡ rows
same_rows words rows others named other =
    ap rows_in (sym other.1 ∙ named.1)

-- a number of these matches is the one that they say
said : (rows : List Row) (name : Text) (least most n m : ℕ) → IsNumberOf rows name least most n
    → SaysNumber rows name least most m → n ≡ m
said rows name least most n m is says =
    let low : least ≤ digits_value 10 (without_leading_plus says.0) = omega (arith, says.3, says.4) in
    let high : digits_value 10 (without_leading_plus says.0) ≤ most = omega (arith, says.3, says.5) in
    is says.0 says.1 says.2 low high ∙ sym says.3

-- words that say a threshold above the size ask for that
pub asks_high : (words : List Text) (asks : Asked) (rows : List Row) → NameThreads words rows → SayHighThreshold rows
    → AsksFor words asks → IsAskedInRange asks → (load : Workload) × (asks ≡ asked.HighThreshold load)
asks_high words asked.Scenario rows named high is range =
    absurd (is (codes "threads") (inr (inr refl)) (command words rows named))
asks_high words (asked.Report report) rows named high is range =
    let name : codes "threads" ≡ is.0.0 = ap name_in (sym named.1 ∙ is.1.1) in
    absurd (no_threads is.0.0 (sym (same_first name)) (sym (same_second name)) is.1.2)
asks_high words (asked.WrongValue value) rows named high is range =
    let name : codes "threads" ≡ is.0.0 = ap name_in (sym named.1 ∙ is.1.1) in
    absurd (no_threads is.0.0 (sym (same_first name)) (sym (same_second name)) is.1.2)
asks_high words (asked.Serve written) rows named high is range =
    let name : codes "threads" ≡ codes "serve" = ap name_in (sym named.1 ∙ is.1.1) in
    absurd (omega (arith, same_second name))
asks_high words (asked.Threads load) rows named high is range =
    let same = same_rows words rows is.0 named is.1 in
    let numbers : AreNumbersOf rows load = subst (λ r. AreNumbersOf r load) same is.2 in
    let size = said rows (codes "size") 1 1_024 load.size high.0 numbers.size high.2 in
    let threshold = said rows (codes "threshold") 1 1_024 load.threshold high.1 numbers.threshold high.3 in
    absurd (omega (arith, range.threshold, size, threshold, high.4))
asks_high words (asked.HighThreshold load) rows named high is range = (load, refl)

-- words that name a dialogue have one list of matches
pub same_dialogue : (words : List Text) (rows others : List Row) → NameServe words rows → NameServe words others
    → rows ≡ others
same_dialogue words rows others named other = ap rows_in (sym named.1 ∙ other.1)
