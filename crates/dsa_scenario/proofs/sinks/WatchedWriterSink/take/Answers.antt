use Rattle.dsa_scenario.proofs.sinks.WatchedWriterSink.take.Goals as goal
use Rattle.dsa_scenario.proofs.StreamWrites.{refusals}

pub returns-clause-stopped : goal.returns-clause-stopped
returns-clause-stopped g c =
    refusals g.W.Write.contents (g.D.StreamSteps.line c.args.what.now)
    (λ rest. g.D.RenderSteps.is_page c.args.what.now rest c.args.page.now) _ _ c.write_out.result
    c.write_out.ensures.writer c.write_out.ensures.fault c.write_out.ensures.part
