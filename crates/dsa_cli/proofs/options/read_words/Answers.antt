use Rattle.dsa_cli.proofs.options.read_words.Goals as goal
use Rattle.std.proofs.Common.{◌≡◌, ◌∙◌, List, [], true, false, Option, Some, option_map, codes, map}
use Rattle.std.proofs.Common.{string_bytes, rules, sym, ap, subst}
use Rattle.std.proofs.Common.{refl, inl, inr, ◌∷◌, length, arith, eqb-true}
use Rattle.std.specs.Prelude.{◌==◌}
use Rattle.clap.specs.Matches.{found_of}
use Rattle.clap.specs.Walk.{Row, Text, rows_of}
use Rattle.clap.specs.Simple.{App, is_simple, subcommand_of, subcommand_rows_of}
use Rattle.clap.specs.{Faults.{fault_of, is_simple_and_free}, Kinds.{HasKind}}
use Rattle.clap.proofs.OnLiterals.{clap_on_literals}
use Rattle.std.proofs.lemmas.Bool.{cases_lt}
use Rattle.dsa_cli.specs.CommandLine.{AskForWorkers, AsksFor, program_app, faults_of_words}
use Rattle.dsa_cli.specs.Threads.{IsAskedInRange}
use Rattle.dsa_cli.proofs.OptionNumbers.{name-rows, some_pair}
use Rattle.dsa_cli.proofs.ReportCommands.{asks_by, in_range}

simple : is_simple program_app ≡ true
unfolding clap_on_literals
simple = refl

free : is_simple_and_free program_app ≡ true
unfolding clap_on_literals
free = refl

-- nothing is wrong with no words
none_wrong : {A : Type 0} (text_of : A → Text) (words : List A) → (length words == 0) ≡ true
    → faults_of_words (map text_of words) ≡ []
unfolding clap_on_literals
none_wrong text_of [] empty = refl
none_wrong text_of (word ∷ words) empty = absurd (omega (arith, eqb-true (length (word ∷ words)) 0 empty))

-- nothing is wrong with the words, where the command line that was made of the program finds nothing
well : (words : List Text) (a : App) → a ≡ program_app → (is_simple_and_free a ≡ true → fault_of a words ≡ [])
    → faults_of_words words ≡ []
well words a same found = ap (λ app. fault_of app words) (sym same) ∙ found (ap is_simple_and_free same ∙ free)

-- the words name what the matches of that command line say
met : {Other : Type 0} (words : List Text) (a : App) (rows : Option (Text × List Row)) → a ≡ program_app
    → (is_simple a ≡ true → Other × (rows ≡ subcommand_of a words)) → rows ≡ subcommand_of program_app words
met words a rows same found = (found (ap is_simple same ∙ simple)).1 ∙ ap (λ app. subcommand_of app words) same

pub returns-then-is_empty-clause-faults : goal.returns-then-is_empty-clause-faults
returns-then-is_empty-clause-faults c =
    none_wrong string_bytes c.args.words.now (sym c.is_empty.ensures ∙ c.if-is_empty.true)

pub returns-in-Some-clause-faults : goal.returns-in-Some-clause-faults
returns-in-Some-clause-faults c = well _ _ c.in_ok-command_line.ensures c.in_ok-matches.ensures.kinds

pub returns-in-Some-clause-range : goal.returns-in-Some-clause-range
returns-in-Some-clause-range c =
    let load = c.workload_of.result in
    elim (cases_lt load.size load.threshold) [
      | inl high ↦ subst IsAskedInRange (sym (c.asked_by.ensures.refused high)) tt
      | inr low ↦ subst IsAskedInRange (sym (c.asked_by.ensures.workers low)) (c.workload_of.ensures.range low)
    ]

pub returns-in-Some-clause-asked : goal.returns-in-Some-clause-asked
returns-in-Some-clause-asked c =
    let words = map string_bytes c.args.words.now in
    let load = c.workload_of.result in
    let met = met _ _ _ c.in_ok-command_line.ensures c.in_ok-matches.ensures.matches in
    let name = name-rows c.in_ok-matches.matches ∙ c.in-Some.ensures.found.0 refl in
    let rows = some_pair (subcommand_rows_of c.in_ok-matches.matches) (codes "threads")
    (rows_of (found_of c.in-Some.given.now)) name c.in-Some.ensures.rows in
    let ask : AskForWorkers words load = (
      rows_of (found_of c.in-Some.given.now),
      (returns-in-Some-clause-faults c, sym met ∙ rows),
      c.workload_of.ensures.numbers,
    ) in
    elim (cases_lt load.size load.threshold) [
      | inl high ↦ subst (AsksFor words) (sym (c.asked_by.ensures.refused high)) (ask, high)
      | inr low ↦ subst (AsksFor words) (sym (c.asked_by.ensures.workers low)) ask
    ]

pub returns-in-Some-report_asked-clause-faults : goal.returns-in-Some-report_asked-clause-faults
returns-in-Some-report_asked-clause-faults c = well _ _ c.in_ok-command_line.ensures c.in_ok-matches.ensures.kinds

pub returns-in-Some-report_asked-clause-asked : goal.returns-in-Some-report_asked-clause-asked
returns-in-Some-report_asked-clause-asked c =
    let met = met _ _ _ c.in_ok-command_line.ensures c.in_ok-matches.ensures.matches in
    let named = c.in-Some-report_asked.ensures.some in
    asks_by _ named.0 (returns-in-Some-report_asked-clause-faults c, sym met ∙ named.1, named.2) _ named.3

pub returns-in-Some-report_asked-clause-range : goal.returns-in-Some-report_asked-clause-range
returns-in-Some-report_asked-clause-range c =
    let named = c.in-Some-report_asked.ensures.some in
    in_range _ _ named.3

pub returns-in-Some-subcommand_matches-clause-faults : goal.returns-in-Some-subcommand_matches-clause-faults
returns-in-Some-subcommand_matches-clause-faults c = well _ _ c.in_ok-command_line.ensures c.in_ok-matches.ensures.kinds

pub returns-in-Some-subcommand_matches-clause-asked : goal.returns-in-Some-subcommand_matches-clause-asked
returns-in-Some-subcommand_matches-clause-asked c =
    let met = met _ _ _ c.in_ok-command_line.ensures c.in_ok-matches.ensures.matches in
    let given = c.in-Some-subcommand_matches.given.now in
    let name = name-rows c.in_ok-matches.matches ∙ c.in-Some-subcommand_matches.ensures.found.0 refl in
    let rows = some_pair (subcommand_rows_of c.in_ok-matches.matches) (codes "serve")
    (rows_of (found_of given)) name c.in-Some-subcommand_matches.ensures.rows in (
      rows_of (found_of given),
      (returns-in-Some-subcommand_matches-clause-faults c, sym met ∙ rows),
      c.written_in.ensures,
    )

pub returns-clause-faults : goal.returns-clause-faults
returns-clause-faults c = well _ _ c.in_ok-command_line.ensures c.in_ok-matches.ensures.kinds

pub returns-in_err-matches-clause-faults : goal.returns-in_err-matches-clause-faults
returns-in_err-matches-clause-faults c =
    let app = c.in_ok-command_line.ensures in
    let kinds : HasKind (fault_of program_app (map string_bytes c.args.words.now)) c.in_err-matches.field-0.0 =
    subst (λ (a : App). HasKind (fault_of a (map string_bytes c.args.words.now)) c.in_err-matches.field-0.0) app
    (c.in_err-matches.ensures.kinds (ap is_simple_and_free app ∙ free)) in
    search (rules, kinds)

pub returns-clause-asked : goal.returns-clause-asked
returns-clause-asked c name is named =
    let met = met _ _ _ c.in_ok-command_line.ensures c.in_ok-matches.ensures.matches in
    let found = ap (option_map (λ found. found.0)) met ∙ named in
    elim is [
      | inl report ↦ c.in_default-report_asked.ensures.none name report found
      | inr (inl serve) ↦
          let none : false ≡ true =
          c.in_default-subcommand_matches.ensures.found.1
          (sym (name-rows c.in_ok-matches.matches) ∙ found ∙ ap Some serve) in
          absurd cc
      | inr (inr threads) ↦
          let none : false ≡ true =
          c.in_default.ensures.found.1 (sym (name-rows c.in_ok-matches.matches) ∙ found ∙ ap Some threads) in
          absurd cc
    ]
