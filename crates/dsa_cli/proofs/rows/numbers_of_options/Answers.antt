use Rattle.dsa_cli.proofs.rows.numbers_of_options.Goals as goal
use Rattle.std.proofs.Common.{◌≡◌, ◌<◌, ◌≤◌, ℕ, [], codes, Option, unwrap_or, refl, lit≤, lit<, ap}
use Rattle.std.proofs.Common.{sym, subst, arith}
use Rattle.std.specs.Str.Parse.{IsNumeral, digits_value, without_leading_plus}
use Rattle.clap.{proofs.OnLiterals.{clap_on_literals}, specs.Walk.{Text}}
use Rattle.dsa_cli.proofs.DecidedLoads.{numbers_of}

-- the number that a text says
abbrev number_in : Option Text → ℕ
number_in o = digits_value 10 (without_leading_plus (unwrap_or o []))

-- no text says a number that is past a bound and within it
past_bound : {A : Type 0} (n most : ℕ) (text : Text) → most < n → n ≡ digits_value 10 (without_leading_plus text)
    → digits_value 10 (without_leading_plus text) ≤ most → A
past_bound n most text more same within = absurd (omega (arith, more, same, within))

pub returns-clause-least : goal.returns-clause-least
unfolding clap_on_literals
returns-clause-least c n reads numeral = reads (codes "1") refl numeral (lit≤ tt) (lit≤ tt)

pub returns-clause-most : goal.returns-clause-most
unfolding clap_on_literals
returns-clause-most c n reads numeral = reads (codes "1000") refl numeral (lit≤ tt) (lit≤ tt)

pub returns-clause-below : goal.returns-clause-below
unfolding clap_on_literals
returns-clause-below c text has numeral least most =
    let is : 0 ≡ digits_value 10 (without_leading_plus text) = ap number_in has in
    absurd (omega (arith, is, least))

pub returns-clause-above : goal.returns-clause-above
unfolding clap_on_literals
returns-clause-above c text has numeral least most =
    past_bound 1_001 1_000 text (lit< tt) (ap number_in has) most

pub returns-clause-no_number : goal.returns-clause-no_number
unfolding clap_on_literals
returns-clause-no_number c text has numeral least most =
    let same : codes "1a" ≡ text = ap (λ o. unwrap_or o []) has in
    let digits : IsNumeral 10 (codes "1a") = subst (λ t. IsNumeral 10 (without_leading_plus t)) (sym same) numeral in
    let low : 10 < 10 = digits.1.1.0 in
    absurd (omega (arith, low))

pub returns-clause-says : goal.returns-clause-says
unfolding clap_on_literals
returns-clause-says c = (codes "7", refl, (lit< tt, (lit< tt, tt)), refl, lit≤ tt, lit≤ tt)

pub returns-clause-says_no_other : goal.returns-clause-says_no_other
unfolding clap_on_literals
returns-clause-says_no_other c says = omega (arith, ap number_in says.1, says.3)

pub returns-clause-says_no_bound : goal.returns-clause-says_no_bound
unfolding clap_on_literals
returns-clause-says_no_bound c n says = omega (arith, ap number_in says.1, says.3, says.5)

pub returns-clause-says_high : goal.returns-clause-says_high
unfolding clap_on_literals
returns-clause-says_high c = (
  4,
  5,
  (codes "4", refl, (lit< tt, (lit< tt, tt)), refl, lit≤ tt, lit≤ tt),
  (codes "5", refl, (lit< tt, (lit< tt, tt)), refl, lit≤ tt, lit≤ tt),
  lit< tt,
)

pub returns-clause-says_the_size : goal.returns-clause-says_the_size
unfolding clap_on_literals
returns-clause-says_the_size c says =
    omega (arith, ap number_in says.2.1, says.2.3, ap number_in says.3.1, says.3.3, says.4)

pub returns-clause-past_bounds : goal.returns-clause-past_bounds
unfolding clap_on_literals
returns-clause-past_bounds c = (
  numbers_of _ _ refl,
  numbers_of _ _ refl,
  numbers_of _ _ refl,
  numbers_of _ _ refl,
  numbers_of _ _ refl,
)

pub returns-clause-bounds : goal.returns-clause-bounds
unfolding clap_on_literals
returns-clause-bounds c states key_bytes are = (
  are.states (codes "1") refl (lit< tt, (lit< tt, tt)) (lit≤ tt) (lit≤ tt),
  are.key_bytes (codes "256") refl (lit< tt, (lit< tt, (lit< tt, (lit< tt, tt)))) (lit≤ tt) (lit≤ tt),
)

pub returns-clause-most_states : goal.returns-clause-most_states
unfolding clap_on_literals
returns-clause-most_states c states are = are.states (codes "16777216") refl
    (lit< tt, (lit< tt, (lit< tt, (lit< tt, (lit< tt, (lit< tt, (lit< tt, (lit< tt, (lit< tt, tt)))))))))
    (lit≤ tt) (lit≤ tt)

pub returns-clause-all : goal.returns-clause-all
returns-clause-all c rows asked numbers = (
  numbers.clients,
  numbers.engines,
  numbers.each,
  numbers.turns,
  numbers.size,
  numbers.threshold,
  numbers.slots,
  numbers.buffers,
)
