use Rattle.dsa_cli.proofs.rows.lines_chosen.Goals as goal
use Rattle.std.proofs.Common.{◌≡◌, ℕ, [], codes, Option, Some, None, unwrap_or, option_map}
use Rattle.std.proofs.Common.{refl, arith, lit≤, lit<, ap}
use Rattle.std.specs.Str.Parse.{digits_value, without_leading_plus}
use Rattle.clap.proofs.OnLiterals.{clap_on_literals}
use Rattle.dsa_chosen.specs.declared.words.AnswerWords.{AnswerWords}
use Rattle.clap.specs.Walk.{Text}
use Rattle.dsa_cli.proofs.{Choices.{when_given}, LinesChosen.{says_given}, ReportNames.{same_first}}

-- the number that a text says
abbrev number_in : Option Text → ℕ
number_in o = digits_value 10 (without_leading_plus (unwrap_or o []))

pub returns-clause-asked : goal.returns-clause-asked
unfolding clap_on_literals
returns-clause-asked c = (
  refl,
  record {
    name = says_given _ (codes "name") 4_294_967_295 (codes "3") {n = 3} refl refl;
    client = says_given _ (codes "client") 65_535 (codes "2") {n = 2} refl refl;
    answers = refl;
    known = refl;
  },
  when_given refl,
)

-- there are no words where none have a text
no_answers : (answers : Option AnswerWords) → option_map (λ answers. answers.text.now) answers ≡ None → answers ≡ None
no_answers None same = refl
no_answers (Some answers) same = absurd cc

pub returns-clause-these : goal.returns-clause-these
unfolding clap_on_literals
returns-clause-these c name client answers is = (
  is.name.given 7 (codes "7", refl, (lit< tt, (lit< tt, tt)), refl, lit≤ tt, lit≤ tt),
  is.client.left_out refl,
  no_answers answers is.answers,
)

pub returns-clause-of_client : goal.returns-clause-of_client
unfolding clap_on_literals
returns-clause-of_client c name client answers is = (
  is.name.left_out refl,
  is.client.given 65_535 (
    codes "65535",
    refl,
    (lit< tt, (lit< tt, (lit< tt, (lit< tt, (lit< tt, (lit< tt, tt)))))),
    refl,
    lit≤ tt,
    lit≤ tt,
  ),
  no_answers answers is.answers,
)

pub returns-clause-most : goal.returns-clause-most
unfolding clap_on_literals
returns-clause-most c name client answers is = is.name.given 4_294_967_295 (
  codes "4294967295",
  refl,
  (
    lit< tt,
    (lit< tt, (lit< tt, (lit< tt, (lit< tt, (lit< tt, (lit< tt, (lit< tt, (lit< tt, (lit< tt, (lit< tt, tt)))))))))),
  ),
  refl,
  lit≤ tt,
  lit≤ tt,
)

pub returns-clause-no_words : goal.returns-clause-no_words
unfolding clap_on_literals
returns-clause-no_words c is = let same = is.answers in cc

pub returns-clause-other_words : goal.returns-clause-other_words
unfolding clap_on_literals
returns-clause-other_words c is = let same = is.answers in cc

pub returns-clause-no_such_words : goal.returns-clause-no_such_words
unfolding clap_on_literals
returns-clause-no_such_words c is = let none = is.known in cc

pub returns-clause-past_bounds : goal.returns-clause-past_bounds
unfolding clap_on_literals
returns-clause-past_bounds c = record {
  given = λ n says. absurd (omega (arith, says.3, says.5, ap number_in says.1));
  left_out = λ none. absurd cc;
}

pub returns-clause-unknown_asked : goal.returns-clause-unknown_asked
unfolding clap_on_literals
returns-clause-unknown_asked c = (refl, refl)

pub returns-clause-of_no_drawing : goal.returns-clause-of_no_drawing
returns-clause-of_no_drawing c is = omega (arith, same_first is.0)

pub returns-clause-by_report : goal.returns-clause-by_report
unfolding clap_on_literals
returns-clause-by_report c = refl

pub returns-clause-by_unknown : goal.returns-clause-by_unknown
unfolding clap_on_literals
returns-clause-by_unknown c = (refl, refl)

pub returns-clause-no_range : goal.returns-clause-no_range
unfolding clap_on_literals
returns-clause-no_range c = (refl, refl, refl)

pub returns-clause-a_range : goal.returns-clause-a_range
unfolding clap_on_literals
returns-clause-a_range c is = let none = is.2 in cc

pub returns-clause-show_and_json : goal.returns-clause-show_and_json
unfolding clap_on_literals
returns-clause-show_and_json c = (refl, refl)

pub returns-clause-show_alone : goal.returns-clause-show_alone
unfolding clap_on_literals
returns-clause-show_alone c is = let none = is.1 in cc

pub returns-clause-json_alone : goal.returns-clause-json_alone
unfolding clap_on_literals
returns-clause-json_alone c is = let none = is.1 in cc

pub returns-clause-of_no_trace : goal.returns-clause-of_no_trace
returns-clause-of_no_trace c is = omega (arith, same_first is.0)
