use Rattle.dsa_cli.proofs.rows.reports_of_documents.Goals as goal
use Rattle.std.proofs.Common.{◌≡◌, false, true, ⊎_elim}

pub returns-clause-no_explanation : goal.returns-clause-no_explanation
returns-clause-no_explanation c bytes text is = let same = is.0 in cc

pub returns-clause-no_trace : goal.returns-clause-no_trace
returns-clause-no_trace c bytes text is = let same = is.0 in cc

pub returns-clause-no_totals : goal.returns-clause-no_totals
returns-clause-no_totals c bytes text is = let same = is.0 in cc

pub returns-clause-no_drawing : goal.returns-clause-no_drawing
returns-clause-no_drawing c bytes text is = let same = is.0 in cc

pub returns-clause-check : goal.returns-clause-check
returns-clause-check c bytes text is = is

pub returns-clause-explanation : goal.returns-clause-explanation
returns-clause-explanation c bytes text is = is.1

pub returns-clause-chosen : goal.returns-clause-chosen
returns-clause-chosen c bytes text is = is.1

pub returns-clause-trace : goal.returns-clause-trace
returns-clause-trace c bytes text is = is.1

pub returns-clause-totals : goal.returns-clause-totals
returns-clause-totals c bytes text is = is.1

pub returns-clause-drawing : goal.returns-clause-drawing
returns-clause-drawing c bytes text is = is.1

pub returns-clause-exploration : goal.returns-clause-exploration
returns-clause-exploration c bytes text is = is

pub returns-clause-row_shown : goal.returns-clause-row_shown
returns-clause-row_shown c bytes text is = ⊎_elim (λ row. row)
    (λ answer. let clash : false ≡ true = answer.called in absurd cc) is

pub returns-clause-answer_shown : goal.returns-clause-answer_shown
returns-clause-answer_shown c bytes text is = ⊎_elim (λ row. absurd row) (λ answer. answer) is

pub returns-clause-conformance : goal.returns-clause-conformance
returns-clause-conformance c bytes text is = is

pub returns-clause-no_seen_explanation : goal.returns-clause-no_seen_explanation
returns-clause-no_seen_explanation c bytes text is = is.made.verdict

pub returns-clause-seen_explanation : goal.returns-clause-seen_explanation
returns-clause-seen_explanation c bytes text is = is

pub returns-clause-seen_trace : goal.returns-clause-seen_trace
returns-clause-seen_trace c bytes text is = is

pub returns-clause-seen_drawing : goal.returns-clause-seen_drawing
returns-clause-seen_drawing c bytes text is = is.made

pub returns-clause-no_chrome_trace : goal.returns-clause-no_chrome_trace
returns-clause-no_chrome_trace c bytes text is = let same = is.0 in cc

pub returns-clause-chrome_trace : goal.returns-clause-chrome_trace
returns-clause-chrome_trace c bytes text is = is.1

pub returns-clause-friendly : goal.returns-clause-friendly
returns-clause-friendly c bytes text is = is
