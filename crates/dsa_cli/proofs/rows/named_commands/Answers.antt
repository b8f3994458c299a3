use Rattle.dsa_cli.proofs.rows.named_commands.Goals as goal
use Rattle.std.proofs.Common.{codes, inl, inr, refl, lit<, ap, arith}
use Rattle.clap.proofs.OnLiterals.{clap_on_literals}
use Rattle.dsa_cli.proofs.ReportNames.{name_in, same_first, no_report}

pub returns-clause-count : goal.returns-clause-count
unfolding clap_on_literals
returns-clause-count c = (refl, refl, inr (inr (inr (inl refl))))

pub returns-clause-help_with_draw : goal.returns-clause-help_with_draw
unfolding clap_on_literals
returns-clause-help_with_draw c found named = let same = named.0 in cc

pub returns-clause-other_report : goal.returns-clause-other_report
unfolding clap_on_literals
returns-clause-other_report c named = omega (arith, same_first (ap name_in named.1))

pub returns-clause-serve_is_no_report : goal.returns-clause-serve_is_no_report
returns-clause-serve_is_no_report c rows named = no_report (codes "serve") (lit< tt) (lit< tt) named.2

pub returns-clause-help_with_threads : goal.returns-clause-help_with_threads
unfolding clap_on_literals
returns-clause-help_with_threads c rows named = let same = named.0 in cc

pub returns-clause-no_threads : goal.returns-clause-no_threads
unfolding clap_on_literals
returns-clause-no_threads c rows named = omega (arith, same_first (ap name_in named.1))

pub returns-clause-help : goal.returns-clause-help
unfolding clap_on_literals
returns-clause-help c named = let same = named.0 in cc

pub returns-clause-draw_is_something : goal.returns-clause-draw_is_something
unfolding clap_on_literals
returns-clause-draw_is_something c named = let same = named.1 in cc

pub returns-clause-help_with_serve : goal.returns-clause-help_with_serve
unfolding clap_on_literals
returns-clause-help_with_serve c rows named = let same = named.0 in cc

pub returns-clause-no_serve : goal.returns-clause-no_serve
unfolding clap_on_literals
returns-clause-no_serve c rows named = let same = named.1 in cc

pub returns-clause-no_input_for_threads : goal.returns-clause-no_input_for_threads
unfolding clap_on_literals
returns-clause-no_input_for_threads c = inr (_, (refl, refl))

pub returns-clause-no_input_for_help : goal.returns-clause-no_input_for_help
unfolding clap_on_literals
returns-clause-no_input_for_help c = inl (λ same. cc)

pub returns-clause-input : goal.returns-clause-input
unfolding clap_on_literals
returns-clause-input c unread =
    elim unread [
      | inl some ↦ some refl
      | inr threads ↦ let same = threads.1.1 in cc
    ]

pub returns-clause-input_for_draw : goal.returns-clause-input_for_draw
unfolding clap_on_literals
returns-clause-input_for_draw c unread =
    elim unread [
      | inl some ↦ some refl
      | inr threads ↦ omega (arith, same_first (ap name_in threads.1.1))
    ]
