use Rattle.dsa_cli.proofs.rows.reports_begun.Goals as goal
use Rattle.std.proofs.Common.{ℕ, List, [], Option, codes, inl, inr, refl, arith, ap, length}
use Rattle.dsa_cli.specs.declared.reports.{Report.{Report, TheVariants.{Trace}}, Run.TheVariants.{Own}}
use Rattle.dsa_cli.specs.{CommandLine.{IsAskedBy}, Reports.{IsReportBegun}}

pub returns-clause-kept : goal.returns-clause-kept
returns-clause-kept c old new is =
    elim (is.1 (λ e. absurd cc)) [ inl kept ↦ kept | inr begun ↦ let other = begun.0 in absurd cc ]

pub returns-clause-begun : goal.returns-clause-begun
returns-clause-begun c = (tt, (λ other. inr (refl, tt)), (λ e. absurd cc))

pub returns-clause-not_begun : goal.returns-clause-not_begun
returns-clause-not_begun c is =
    elim (is.1 (λ e. absurd cc)) [ inl kept ↦ omega (arith, kept) | inr begun ↦ begun.1 ]

pub returns-clause-not_cut : goal.returns-clause-not_cut
returns-clause-not_cut c is = is.2 refl

-- only a trace is begun, and a drawing is none
no_drawing : (report : Report) (had left held holds : Option (List ℕ)) → IsAskedBy (codes "draw", []) report
    → IsReportBegun report had left held holds → ⊥
no_drawing (Trace form Own) had left held holds asked begun = omega (arith, ap length asked.0)
no_drawing _ had left held holds asked begun = begun

pub returns-clause-no_drawing : goal.returns-clause-no_drawing
returns-clause-no_drawing c had left held holds is = no_drawing is.0 had left held holds is.1 is.2

pub returns-clause-no_seen_trace : goal.returns-clause-no_seen_trace
returns-clause-no_seen_trace c form had left held holds is = is
