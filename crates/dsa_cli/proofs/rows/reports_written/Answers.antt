use Rattle.dsa_cli.proofs.rows.reports_written.Goals as goal
use Rattle.dsa_cli.specs.declared.reports.Report.TheVariants as report
use Rattle.dsa_cli.specs.declared.reports.Run.TheVariants.{Own}
use Rattle.clap.proofs.OnLiterals.{clap_on_literals}
use Rattle.dsa_cli.proofs.Choices.{when_left_out}
use Rattle.dsa_cli.specs.Worked.{whole_drawing}
use Rattle.std.proofs.Common.{Some, None, inl, refl, sym, append-nil}
use Rattle.dsa_scenario.specs.declared.faults.ScenarioFault.TheVariants.{BadCaps}

pub returns-clause-all : goal.returns-clause-all
returns-clause-all c bytes text is short = inl (bytes, text, (sym (append-nil bytes), refl, short), is, refl)

pub returns-clause-first_bytes : goal.returns-clause-first_bytes
returns-clause-first_bytes c bytes text is short more =
    inl (bytes, text, Some BadCaps, 3, (sym (append-nil bytes), refl, short), is, more, refl)

pub returns-clause-drawing : goal.returns-clause-drawing
unfolding clap_on_literals
returns-clause-drawing c bytes text is short = (
  report.Draw whole_drawing Own,
  (refl, refl, when_left_out refl),
  inl (bytes, text, (sym (append-nil bytes), refl, short), (refl, is), refl),
)

pub returns-clause-reported : goal.returns-clause-reported
returns-clause-reported c found had left held holds is = (is.1, is.2)

pub returns-clause-drawing_cut : goal.returns-clause-drawing_cut
unfolding clap_on_literals
returns-clause-drawing_cut c bytes text is short more = (
  report.Draw whole_drawing Own,
  (refl, refl, when_left_out refl),
  inl (bytes, text, None, 3, (sym (append-nil bytes), refl, short), (refl, is), more, refl),
)

pub returns-clause-cut : goal.returns-clause-cut
returns-clause-cut c found had left held holds is = (is.1, is.2)
