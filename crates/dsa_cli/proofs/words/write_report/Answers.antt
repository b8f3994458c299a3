use Rattle.dsa_cli.proofs.words.write_report.Goals as goal
use Rattle.std.proofs.Common.{◌∙◌, inl, inr, refl, sym}
use Rattle.dsa_scenario.specs.Watched.{watched_contents}
use Rattle.dsa_cli.proofs.OnTheWay.{ended_whole, is_streamed}

pub returns-in-Some-clause-done : goal.returns-in-Some-clause-done
returns-in-Some-clause-done g c zero =
    rw (is_streamed _ _ (sym c.streamed.ensures ∙ c.in-Some.is)) (c.write_trace.ensures.done zero)

pub returns-in-Some-clause-failed : goal.returns-in-Some-clause-failed
returns-in-Some-clause-failed g c one =
    let failed = c.write_trace.ensures.failed one in
    rw (is_streamed _ _ (sym c.streamed.ensures ∙ c.in-Some.is))
    (failed.0, inr (failed.1.0, (λ long. refl), failed.1.1), failed.2)

pub returns-in-None-clause-done : goal.returns-in-None-clause-done
returns-in-None-clause-done g c zero = inl (c.write_text.ensures.done zero)

pub returns-in-None-clause-failed : goal.returns-in-None-clause-failed
returns-in-None-clause-failed g c one =
    ended_whole c.args.report.now _ _ (watched_contents g.O.Write.contents) _ _
    (sym c.streamed.ensures ∙ c.in-None.is)
    (rw c.text_if_too_long.ensures at (c.write_text.ensures.failed one))
