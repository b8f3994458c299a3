use Rattle.dsa_cli.proofs.rows.asked.Goals as goal
use Rattle.dsa_exploration.specs.declared.exploration.Form.TheVariants as exploration
use Rattle.std.proofs.Common.{◌≡◌, ◌⊎◌, ◌∙◌, List, [], ◌∷◌, codes, Option, Some, unwrap_or}
use Rattle.std.proofs.Common.{inl, inr, refl, sym}
use Rattle.std.proofs.Common.{ap, subst, arith, lit≤, lit<}
use Rattle.std.specs.Str.Parse.{IsNumeral}
use Rattle.std.specs.{Prelude.{option_and_then}, Option.{option_map_or}}
use Rattle.clap.specs.Walk.{Row, Text, first_of, one_of}
use Rattle.dsa_chosen.specs.Words.{unknown_word}
use Rattle.clap.specs.declared.error.kind.ErrorKind.{ErrorKind, TheVariants.{DisplayHelp, DisplayVersion, UnknownArgument}}
use Rattle.clap.proofs.OnLiterals.{clap_on_literals}
use Rattle.dsa_cli.specs.declared.options.WrongValue.TheVariants.{Answer, Clash}
use Rattle.dsa_cli.specs.declared.options.Clash.TheVariants.{ShowAndJson}
use Rattle.clap.specs.Kinds.{IsAmong}
use Rattle.dsa_exploration.specs.declared.exploration.Form.{Form}
use Rattle.dsa_cli.specs.CommandLine.{IsMistaken, IsReportName, faults_of_words, search_form}
use Rattle.dsa_cli.specs.Worked.{load, lent_text}
use Rattle.dsa_cli.proofs.Choices.{first_given, first_left_out, lines_form, table_form, when_given, when_left_out}
use Rattle.dsa_cli.proofs.DecidedLoads.{said_bounds, said_numbers}
use Rattle.dsa_cli.proofs.LinesChosen.{none_chosen, says_given}
use Rattle.dsa_cli.proofs.ReportNames.{name_in, same_first, no_report}

-- the text of an option
abbrev option_in : Text → Option (Text × List Row) → Option Text
option_in name found = option_and_then (λ (p : Text × List Row). one_of name p.1) found

-- the words that the option of `explain` has
abbrev words_in : Text → Option (Text × List Row) → Option Text
words_in name found = option_and_then (λ (p : Text × List Row). first_of name p.1) found

pub returns-clause-scenario : goal.returns-clause-scenario
unfolding clap_on_literals
returns-clause-scenario c name is same = cc

pub returns-clause-help_is_scenario : goal.returns-clause-help_is_scenario
unfolding clap_on_literals
returns-clause-help_is_scenario c name is same =
    let help : codes "help" ≡ name = ap (λ o. unwrap_or o []) same in
    elim is [
      | inl report ↦ no_report (codes "help") (lit< tt) (lit< tt) (subst (λ n. IsReportName n) (sym help) report)
      | inr (inl serve) ↦ omega (arith, same_first (help ∙ serve))
      | inr (inr threads) ↦ omega (arith, same_first (help ∙ threads))
    ]

pub returns-clause-no_scenario : goal.returns-clause-no_scenario
unfolding clap_on_literals
returns-clause-no_scenario c other = other (codes "threads") (inr (inr refl)) refl

pub returns-clause-threads : goal.returns-clause-threads
unfolding clap_on_literals
returns-clause-threads c = (_, (refl, refl), said_numbers _ _ refl refl refl refl refl refl refl refl)

pub returns-clause-high_threshold : goal.returns-clause-high_threshold
unfolding clap_on_literals
returns-clause-high_threshold c = ((_, (refl, refl), said_numbers _ _ refl refl refl refl refl refl refl refl), lit< tt)

pub returns-clause-mistaken_threshold : goal.returns-clause-mistaken_threshold
returns-clause-mistaken_threshold c =
    inr (inl (record (load 2 2 100 10_000) { threshold = 17 }, returns-clause-high_threshold c))

pub returns-clause-threshold_at_the_size : goal.returns-clause-threshold_at_the_size
returns-clause-threshold_at_the_size c asks = omega (arith, asks.1)

pub returns-clause-check : goal.returns-clause-check
unfolding clap_on_literals
returns-clause-check c =
    (_, (refl, refl, inl refl), (refl, record { strict = when_left_out refl; form = lines_form refl refl refl }))

pub returns-clause-strict_check : goal.returns-clause-strict_check
unfolding clap_on_literals
returns-clause-strict_check c =
    (_, (refl, refl, inl refl), (refl, record { strict = when_given refl; form = lines_form refl refl refl }))

pub returns-clause-json_check : goal.returns-clause-json_check
unfolding clap_on_literals
returns-clause-json_check c =
    (_, (refl, refl, inl refl), (refl, record { strict = when_left_out refl; form = first_given refl }))

pub returns-clause-colored_check : goal.returns-clause-colored_check
unfolding clap_on_literals
returns-clause-colored_check c = (
  _,
  (refl, refl, inl refl),
  (refl, record { strict = when_left_out refl; form = first_left_out refl (first_given refl) }),
)

pub returns-clause-no_plain_check : goal.returns-clause-no_plain_check
unfolding clap_on_literals
returns-clause-no_plain_check c asks =
    let option = ap (option_in (codes "strict")) asks.1.1 in
    let same = asks.2.1.strict.given (sym option) in
    cc

pub returns-clause-no_strict_check : goal.returns-clause-no_strict_check
unfolding clap_on_literals
returns-clause-no_strict_check c asks =
    let option = ap (option_in (codes "strict")) asks.1.1 in
    let same = asks.2.1.strict.left_out (sym option) in
    cc

pub returns-clause-explain : goal.returns-clause-explain
unfolding clap_on_literals
returns-clause-explain c = (_, (refl, refl, inr (inl refl)), (refl, none_chosen _ refl refl refl, when_left_out refl))

pub returns-clause-seen_explain : goal.returns-clause-seen_explain
unfolding clap_on_literals
returns-clause-seen_explain c = (_, (refl, refl, inr (inl refl)), (refl, none_chosen _ refl refl refl, when_given refl))

pub returns-clause-chosen : goal.returns-clause-chosen
unfolding clap_on_literals
returns-clause-chosen c = (
  _,
  (refl, refl, inr (inl refl)),
  (
    refl,
    record {
      name = says_given _ (codes "name") 4_294_967_295 (codes "3") {n = 3} refl refl;
      client = says_given _ (codes "client") 65_535 (codes "2") {n = 2} refl refl;
      answers = refl;
      known = refl;
    },
    record { given = λ has. refl; left_out = λ has. absurd cc },
  ),
)

pub returns-clause-no_lines_chosen : goal.returns-clause-no_lines_chosen
unfolding clap_on_literals
returns-clause-no_lines_chosen c asks =
    let option = ap (words_in (codes "only")) asks.1.1 in
    let same = asks.2.1.answers ∙ sym option in
    cc

pub returns-clause-unknown_answer : goal.returns-clause-unknown_answer
unfolding clap_on_literals
returns-clause-unknown_answer c = (_, (refl, refl, inr (inl refl)), (refl, refl))

pub returns-clause-known_answer : goal.returns-clause-known_answer
unfolding clap_on_literals
returns-clause-known_answer c asks =
    let option = ap (λ o. option_and_then unknown_word (words_in (codes "only") o)) asks.1.1 in
    let same = option ∙ asks.2.1 in
    cc

pub returns-clause-mistaken_answer : goal.returns-clause-mistaken_answer
unfolding clap_on_literals
returns-clause-mistaken_answer c =
    inr (inr (Answer (lent_text (codes "idel")), (_, (refl, refl, inr (inl refl)), (refl, refl))))

pub returns-clause-no_own_explain : goal.returns-clause-no_own_explain
unfolding clap_on_literals
returns-clause-no_own_explain c asks =
    let option = ap (option_in (codes "seen")) asks.1.1 in
    let same = asks.2.2.given (sym option) in
    cc

pub returns-clause-count : goal.returns-clause-count
unfolding clap_on_literals
returns-clause-count c = (_, (refl, refl, inr (inr (inr (inl refl)))), refl)

pub returns-clause-explore : goal.returns-clause-explore
unfolding clap_on_literals
returns-clause-explore c =
    (_, (refl, refl, inr (inr (inr (inr (inr (inr (inr refl))))))), (refl, said_bounds _ _ refl refl, refl, refl, refl, refl))

pub returns-clause-show : goal.returns-clause-show
unfolding clap_on_literals
returns-clause-show c =
    (_, (refl, refl, inr (inr (inr (inr (inr (inr (inr refl))))))), (refl, said_bounds _ _ refl refl, refl, refl))

pub returns-clause-json_explore : goal.returns-clause-json_explore
unfolding clap_on_literals
returns-clause-json_explore c =
    (_, (refl, refl, inr (inr (inr (inr (inr (inr (inr refl))))))), (refl, said_bounds _ _ refl refl, refl, refl, refl, refl))

pub returns-clause-json_and_show : goal.returns-clause-json_and_show
unfolding clap_on_literals
returns-clause-json_and_show c = (_, (refl, refl, inr (inr (inr (inr (inr (inr (inr refl))))))), (refl, refl))

-- the form of a search that the options of `explore` ask for
abbrev form_in : Option (Text × List Row) → Form
form_in found = option_map_or (λ (p : Text × List Row). search_form p.1) found exploration.Table

pub returns-clause-no_json : goal.returns-clause-no_json
unfolding clap_on_literals
returns-clause-no_json c asks = let same = ap form_in asks.1.1 ∙ sym asks.2.3 in cc

pub returns-clause-no_table : goal.returns-clause-no_table
unfolding clap_on_literals
returns-clause-no_table c asks = let same = ap form_in asks.1.1 ∙ sym asks.2.3 in cc

pub returns-clause-mistaken_show : goal.returns-clause-mistaken_show
unfolding clap_on_literals
returns-clause-mistaken_show c =
    inr (inr (Clash ShowAndJson, (_, (refl, refl, inr (inr (inr (inr (inr (inr (inr refl))))))), (refl, refl))))

pub returns-clause-few_states : goal.returns-clause-few_states
unfolding clap_on_literals
returns-clause-few_states c =
    (_, (refl, refl, inr (inr (inr (inr (inr (inr (inr refl))))))), (refl, said_bounds _ _ refl refl, refl, refl, refl, refl))

pub returns-clause-long_keys : goal.returns-clause-long_keys
unfolding clap_on_literals
returns-clause-long_keys c =
    (_, (refl, refl, inr (inr (inr (inr (inr (inr (inr refl))))))), (refl, said_bounds _ _ refl refl, refl, refl, refl, refl))

pub returns-clause-other_states : goal.returns-clause-other_states
unfolding clap_on_literals
returns-clause-other_states c asks =
    let has : one_of (codes "states") asks.0.1 ≡ Some (codes "100000") =
    ap (option_in (codes "states")) (sym asks.1.1) in
    let digits : IsNumeral 10 (codes "100000") =
    (lit< tt, (lit< tt, (lit< tt, (lit< tt, (lit< tt, (lit< tt, (lit< tt, tt))))))) in
    omega (arith, asks.2.1.states (codes "100000") has digits (lit≤ tt) (lit≤ tt))

pub returns-clause-other_search : goal.returns-clause-other_search
unfolding clap_on_literals
returns-clause-other_search c asks = omega (arith, same_first (ap name_in asks.1.1 ∙ asks.2.0))

pub returns-clause-draw : goal.returns-clause-draw
unfolding clap_on_literals
returns-clause-draw c = (_, (refl, refl, inr (inr (inr (inr (inl refl))))), (refl, refl, when_left_out refl))

pub returns-clause-seen_draw : goal.returns-clause-seen_draw
unfolding clap_on_literals
returns-clause-seen_draw c = (_, (refl, refl, inr (inr (inr (inr (inl refl))))), (refl, refl, when_given refl))

pub returns-clause-steps : goal.returns-clause-steps
unfolding clap_on_literals
returns-clause-steps c = (_, (refl, refl, inr (inr (inr (inr (inl refl))))), (refl, refl, when_left_out refl))

pub returns-clause-no_steps : goal.returns-clause-no_steps
unfolding clap_on_literals
returns-clause-no_steps c = (_, (refl, refl, inr (inr (inr (inr (inl refl))))), (refl, refl, refl))

pub returns-clause-no_seen_draw : goal.returns-clause-no_seen_draw
unfolding clap_on_literals
returns-clause-no_seen_draw c asks =
    let option = ap (option_in (codes "seen")) asks.1.1 in
    let same = asks.2.2.left_out (sym option) in
    cc

pub returns-clause-conform : goal.returns-clause-conform
unfolding clap_on_literals
returns-clause-conform c =
    (_, (refl, refl, inr (inr (inr (inr (inr (inl refl)))))), (refl, when_left_out refl, when_left_out refl))

pub returns-clause-conform_all : goal.returns-clause-conform_all
unfolding clap_on_literals
returns-clause-conform_all c =
    (_, (refl, refl, inr (inr (inr (inr (inr (inl refl)))))), (refl, when_given refl, when_left_out refl))

pub returns-clause-friendly : goal.returns-clause-friendly
unfolding clap_on_literals
returns-clause-friendly c =
    (_, (refl, refl, inr (inr (inr (inr (inr (inl refl)))))), (refl, when_left_out refl, when_given refl))

pub returns-clause-wide : goal.returns-clause-wide
unfolding clap_on_literals
returns-clause-wide c = (
  _,
  (refl, refl, inr (inr (inl refl))),
  (refl, first_left_out refl (first_left_out refl (first_left_out refl (first_given refl))), when_left_out refl),
)

pub returns-clause-changes : goal.returns-clause-changes
unfolding clap_on_literals
returns-clause-changes c = (
  _,
  (refl, refl, inr (inr (inl refl))),
  (refl, first_left_out refl (first_left_out refl (first_given refl)), when_left_out refl),
)

pub returns-clause-serve : goal.returns-clause-serve
unfolding clap_on_literals
returns-clause-serve c = (_, (refl, refl), when_left_out refl)

pub returns-clause-friendly_serve : goal.returns-clause-friendly_serve
unfolding clap_on_literals
returns-clause-friendly_serve c = (_, (refl, refl), when_given refl)

pub returns-clause-serve_is_no_scenario : goal.returns-clause-serve_is_no_scenario
unfolding clap_on_literals
returns-clause-serve_is_no_scenario c other = other (codes "serve") (inr (inl refl)) refl

pub returns-clause-draw_is_no_scenario : goal.returns-clause-draw_is_no_scenario
unfolding clap_on_literals
returns-clause-draw_is_no_scenario c other = other (codes "draw") (inl (inr (inr (inr (inr (inl refl)))))) refl

pub returns-clause-trace : goal.returns-clause-trace
unfolding clap_on_literals
returns-clause-trace c =
    (_, (refl, refl, inr (inr (inl refl))), (refl, table_form refl refl refl refl, when_left_out refl))

pub returns-clause-seen_trace : goal.returns-clause-seen_trace
unfolding clap_on_literals
returns-clause-seen_trace c =
    (_, (refl, refl, inr (inr (inl refl))), (refl, table_form refl refl refl refl, when_given refl))

pub returns-clause-json : goal.returns-clause-json
unfolding clap_on_literals
returns-clause-json c =
    (_, (refl, refl, inr (inr (inl refl))), (refl, first_left_out refl (first_given refl), when_left_out refl))

pub returns-clause-seen_json : goal.returns-clause-seen_json
unfolding clap_on_literals
returns-clause-seen_json c =
    (_, (refl, refl, inr (inr (inl refl))), (refl, first_left_out refl (first_given refl), when_given refl))

pub returns-clause-chrome : goal.returns-clause-chrome
unfolding clap_on_literals
returns-clause-chrome c = (_, (refl, refl, inr (inr (inl refl))), (refl, first_given refl, when_left_out refl))

pub returns-clause-chrome_and_json : goal.returns-clause-chrome_and_json
unfolding clap_on_literals
returns-clause-chrome_and_json c = (_, (refl, refl, inr (inr (inl refl))), (refl, first_given refl, when_left_out refl))

pub returns-clause-mistaken : goal.returns-clause-mistaken
unfolding clap_on_literals
returns-clause-mistaken c = inl (UnknownArgument, inl refl, (λ same. cc), (λ same. cc))

-- to ask for help or for the version, and for nothing else, is no mistake
asks_only : (words : List Text) (kind : ErrorKind) → faults_of_words words ≡ kind ∷ []
    → (kind ≡ DisplayHelp) ⊎ (kind ≡ DisplayVersion) → ¬ IsMistaken words
asks_only words kind is which mistake =
    elim mistake [
      | inl found ↦
          elim (subst (IsAmong found.0) is found.1) [
            | inl same ↦
                elim which [
                  | inl help ↦ found.2 (same ∙ help)
                  | inr version ↦ found.3 (same ∙ version)
                ]
            | inr none ↦ none
          ]
      | inr (inl high) ↦ let none = sym high.1.0.1.0 ∙ is in cc
      | inr (inr unknown) ↦ let none = sym unknown.1.1.0 ∙ is in cc
    ]

pub returns-clause-help : goal.returns-clause-help
unfolding clap_on_literals
returns-clause-help c = asks_only (codes "--help" ∷ []) DisplayHelp refl (inl refl)

pub returns-clause-version : goal.returns-clause-version
unfolding clap_on_literals
returns-clause-version c = asks_only (codes "--version" ∷ []) DisplayVersion refl (inr refl)

pub returns-clause-other_report : goal.returns-clause-other_report
unfolding clap_on_literals
returns-clause-other_report c asks = omega (arith, same_first (ap name_in asks.1.1 ∙ asks.2.0))

pub returns-clause-nothing_is_no_report : goal.returns-clause-nothing_is_no_report
unfolding clap_on_literals
returns-clause-nothing_is_no_report c asks = let same = asks.1.1 in cc

pub returns-clause-nothing_is_no_threads : goal.returns-clause-nothing_is_no_threads
unfolding clap_on_literals
returns-clause-nothing_is_no_threads c asks = let same = asks.1.1 in cc

pub returns-clause-other_numbers : goal.returns-clause-other_numbers
unfolding clap_on_literals
returns-clause-other_numbers c asks =
    let has : one_of (codes "engines") asks.0 ≡ Some (codes "3") = ap (option_in (codes "engines")) (sym asks.1.1) in
    let numeral : IsNumeral 10 (codes "3") = (lit< tt, (lit< tt, tt)) in
    omega (arith, asks.2.engines (codes "3") has numeral (lit≤ tt) (lit≤ tt))

pub returns-clause-none : goal.returns-clause-none
unfolding clap_on_literals
returns-clause-none c mistake =
    elim mistake [
      | inl found ↦ found.1
      | inr (inl high) ↦ let none = high.1.0.1.1 in cc
      | inr (inr unknown) ↦ let none = unknown.1.1.1 in cc
    ]

pub returns-clause-understood : goal.returns-clause-understood
unfolding clap_on_literals
returns-clause-understood c = inl refl

pub returns-clause-help_understood : goal.returns-clause-help_understood
unfolding clap_on_literals
returns-clause-help_understood c = inr (inl (inl refl))

pub returns-clause-version_understood : goal.returns-clause-version_understood
unfolding clap_on_literals
returns-clause-version_understood c = inr (inr (inl refl))

pub returns-clause-not_understood : goal.returns-clause-not_understood
unfolding clap_on_literals
returns-clause-not_understood c understood =
    elim understood [
      | inl none ↦ cc
      | inr (inl (inl first)) ↦ cc
      | inr (inl (inr (inl second))) ↦ cc
      | inr (inl (inr (inr none))) ↦ none
      | inr (inr (inl first)) ↦ cc
      | inr (inr (inr (inl second))) ↦ cc
      | inr (inr (inr (inr none))) ↦ none
    ]

pub returns-clause-nothing_named : goal.returns-clause-nothing_named
unfolding clap_on_literals
returns-clause-nothing_named c = (refl, refl)

pub returns-clause-two_dashes : goal.returns-clause-two_dashes
unfolding clap_on_literals
returns-clause-two_dashes c = (refl, refl)
