use Rattle.dsa_cli.proofs.rows.dialogue_served.Goals as goal
use Rattle.dsa_cli.specs.declared.reports.Written.TheVariants.{Friendly, Strict}
use Rattle.dsa_cli.proofs.Choices.{when_given, when_left_out}
use Rattle.std.proofs.Common.{ℕ, List, length, refl, sym, ap, append-nil, arith}

pub returns-clause-served : goal.returns-clause-served
returns-clause-served c input output answers =
    (Strict, when_left_out refl, (input, output, sym (append-nil input), refl, answers, refl))

pub returns-clause-friendly : goal.returns-clause-friendly
returns-clause-friendly c input output answers =
    (Friendly, when_given refl, (input, output, sym (append-nil input), refl, answers, refl))

pub returns-clause-all : goal.returns-clause-all
returns-clause-all c written had left held holds served = (served.2, served.3, served.4, served.5)

pub returns-clause-strictly : goal.returns-clause-strictly
returns-clause-strictly c had left held holds served = served.1.left_out refl

pub returns-clause-more_to_read : goal.returns-clause-more_to_read
returns-clause-more_to_read c rows served = omega (arith, ap (λ (l : List ℕ). length l) served.2.3)

pub returns-clause-given_back : goal.returns-clause-given_back
returns-clause-given_back c rows served = omega (arith, ap (λ (l : List ℕ). length l) served.2.3)
