use Rattle.dsa_scenario.proofs.streaming.stream_head.Goals as goal
use Rattle.std.proofs.Common.{◌≡◌, inl, inr, refl}
use Rattle.std.proofs.{KnownBytes.{Appends-trans}, lemmas.Result.{err_from_is_err_and, on_ok_weaker, IfErr-at_err}}
use Rattle.dsa_scenario.specs.declared.faults.ScenarioFault.TheVariants.{Write, OutOfMemory}
use Rattle.dsa_scenario.specs.{Streams.{IsPartWritten}, Watched.{watched_contents}}
use Rattle.dsa_scenario.proofs.StreamWrites.{part_behind, written_memory, written_behind}
use Rattle.dsa_scenario.proofs.Streams.{opened_stream, why_stopped, written_where_stopped, lines_taken, lines_cut}
use Rattle.dsa_scenario.proofs.Streams.{walked_to_end, text_of_rest}

pub returns-in_err-walk_into-clause-writer : goal.returns-in_err-walk_into-clause-writer
returns-in_err-walk_into-clause-writer g c =
    let p = err_from_is_err_and c.from_residual-in_err-walk_into.result c.from_residual-in_err-walk_into.ensures.1 in
    rw (p.1, p.2) (written_where_stopped g.W.Write.contents (g.D.StreamSteps.line c.args.what.now) _ _ _ _ _ _ _
    c.in_ok-check_steps.ensures.ok.1 c.in_err-walk_into.ensures.bad
    (c.in_err-walk_into.ensures.stopped c.args.head.now.caps c.args.head.now.capacity c.args.writer.now
    (opened_stream g.W.Write.contents (g.D.StreamSteps.line c.args.what.now)
    (g.D.RenderSteps.is_page c.args.what.now) _ _ _ _ _ _ c.in_ok-run.ensures.first c.open-page.ensures)))

pub returns-in_err-walk_into-clause-nothing : goal.returns-in_err-walk_into-clause-nothing
returns-in_err-walk_into-clause-nothing g c =
    let p = err_from_is_err_and c.from_residual-in_err-walk_into.result c.from_residual-in_err-walk_into.ensures.1 in
    rw (p.1, p.2) (λ other more.
    elim (why_stopped _ _ _ c.in_ok-check_steps.ensures.ok.1 c.in_err-walk_into.ensures.bad) [
      | inl memory ↦ absurd (more memory)
      | inr refused ↦ absurd (other refused)
    ])

pub returns-in_err-walk_into-clause-part : goal.returns-in_err-walk_into-clause-part
returns-in_err-walk_into-clause-part g c is bytes head =
    let p = err_from_is_err_and c.from_residual-in_err-walk_into.result c.from_residual-in_err-walk_into.ensures.1 in
    let refused : c.in_err-walk_into.field-0.0 ≡ Write = cc in
    let stopped = c.in_err-walk_into.ensures.stopped c.args.head.now.caps c.args.head.now.capacity c.args.writer.now
    (opened_stream g.W.Write.contents (g.D.StreamSteps.line c.args.what.now)
    (g.D.RenderSteps.is_page c.args.what.now) _ _ _ _ _ _ c.in_ok-run.ensures.first c.open-page.ensures) in
    let cut = lines_cut g.W.Write.contents (g.D.StreamSteps.line c.args.what.now) _ _ bytes _ _ _
    c.in_ok-check_steps.ensures.ok.0
    (record { head = head; asked = c.in_ok-check_steps.ensures.ok.1; opening = c.in_ok-run.ensures.opening })
    (stopped.0 refused) in
    (cut.0, (refl, inr cut.1), cut.2)

pub returns-in_err-walk_into-clause-lines : goal.returns-in_err-walk_into-clause-lines
returns-in_err-walk_into-clause-lines g c is bytes head =
    let p = err_from_is_err_and c.from_residual-in_err-walk_into.result c.from_residual-in_err-walk_into.ensures.1 in
    let memory : c.in_err-walk_into.field-0.0 ≡ OutOfMemory = cc in
    let stopped = c.in_err-walk_into.ensures.stopped c.args.head.now.caps c.args.head.now.capacity c.args.writer.now
    (opened_stream g.W.Write.contents (g.D.StreamSteps.line c.args.what.now)
    (g.D.RenderSteps.is_page c.args.what.now) _ _ _ _ _ _ c.in_ok-run.ensures.first c.open-page.ensures) in
    inr (lines_taken g.W.Write.contents (g.D.StreamSteps.line c.args.what.now) _ _ bytes _ _ _
    c.in_ok-check_steps.ensures.ok.0
    (record { head = head; asked = c.in_ok-check_steps.ensures.ok.1; opening = c.in_ok-run.ensures.opening })
    (stopped.1 (λ refused. absurd cc)))

pub returns-in_err-text-clause-writer : goal.returns-in_err-text-clause-writer
returns-in_err-text-clause-writer g c =
    let p = err_from_is_err_and c.from_residual-in_err-text.result c.from_residual-in_err-text.ensures.1 in
    let walked = c.in_ok-walk_into.ensures.ok.2 c.args.head.now.caps c.args.head.now.capacity c.args.writer.now
    (opened_stream g.W.Write.contents (g.D.StreamSteps.line c.args.what.now)
    (g.D.RenderSteps.is_page c.args.what.now) _ _ _ _ _ _ c.in_ok-run.ensures.first c.open-page.ensures) in
    rw (p.1, p.2) (written_memory g.W.Write.contents (g.D.StreamSteps.line c.args.what.now) _ _ _ walked.made.1)

pub returns-in_err-text-clause-lines : goal.returns-in_err-text-clause-lines
returns-in_err-text-clause-lines g c is bytes head =
    let walked = c.in_ok-walk_into.ensures.ok.2 c.args.head.now.caps c.args.head.now.capacity c.args.writer.now
    (opened_stream g.W.Write.contents (g.D.StreamSteps.line c.args.what.now)
    (g.D.RenderSteps.is_page c.args.what.now) _ _ _ _ _ _ c.in_ok-run.ensures.first c.open-page.ensures) in
    inr (lines_taken g.W.Write.contents (g.D.StreamSteps.line c.args.what.now) _ _ bytes _ _ _
    c.in_ok-walk_into.ensures.ok.0
    (record { head = head; asked = c.in_ok-walk_into.ensures.ok.1; opening = c.in_ok-run.ensures.opening })
    (walked_to_end _ (g.D.RenderSteps.is_page c.args.what.now) _ _ c.args.head.now.steps.now _ _ _ _
    c.in_ok-walk_into.ensures.ok.1 walked))

pub returns-clause-writer : goal.returns-clause-writer
returns-clause-writer g c =
    let walked = c.in_ok-walk_into.ensures.ok.2 c.args.head.now.caps c.args.head.now.capacity c.args.writer.now
    (opened_stream g.W.Write.contents (g.D.StreamSteps.line c.args.what.now)
    (g.D.RenderSteps.is_page c.args.what.now) _ _ _ _ _ _ c.in_ok-run.ensures.first c.open-page.ensures) in
    written_behind g.W.Write.contents (g.D.StreamSteps.line c.args.what.now) _ _ _ _ c.write_text.result walked.made.1
    c.write_text.ensures.writer

pub returns-clause-ok : goal.returns-clause-ok
returns-clause-ok g c =
    on_ok_weaker c.write_text.result
    (λ whole bytes head.
    let walked = c.in_ok-walk_into.ensures.ok.2 c.args.head.now.caps c.args.head.now.capacity c.args.writer.now
    (opened_stream g.W.Write.contents (g.D.StreamSteps.line c.args.what.now)
    (g.D.RenderSteps.is_page c.args.what.now) _ _ _ _ _ _ c.in_ok-run.ensures.first c.open-page.ensures) in
    let all = text_of_rest g.W.Write.contents (g.D.StreamSteps.line c.args.what.now)
    (g.D.RenderSteps.is_page c.args.what.now) (g.D.RenderSteps.is_text c.args.what.now) _ _ bytes _ _ _ _ _ _ _ _
    c.as_bytes.result.now
    (record { head = head; asked = c.in_ok-walk_into.ensures.ok.1; opening = c.in_ok-run.ensures.opening })
    walked (λ rest made. rw c.as_bytes.ensures.value (c.in_ok-text.ensures rest made))
    (λ done rest is. g.met.D.StreamSteps.continues c.args.what.now done rest _ _ is) in
    (_, all.2, Appends-trans _ _ _ _ _ all.1.lines whole))
    c.write_text.ensures.whole

pub returns-clause-part : goal.returns-clause-part
returns-clause-part g c is bytes head =
    let walked = c.in_ok-walk_into.ensures.ok.2 c.args.head.now.caps c.args.head.now.capacity c.args.writer.now
    (opened_stream g.W.Write.contents (g.D.StreamSteps.line c.args.what.now)
    (g.D.RenderSteps.is_page c.args.what.now) _ _ _ _ _ _ c.in_ok-run.ensures.first c.open-page.ensures) in
    let all = text_of_rest g.W.Write.contents (g.D.StreamSteps.line c.args.what.now)
    (g.D.RenderSteps.is_page c.args.what.now) (g.D.RenderSteps.is_text c.args.what.now) _ _ bytes _ _ _ _ _ _ _ _
    c.as_bytes.result.now
    (record { head = head; asked = c.in_ok-walk_into.ensures.ok.1; opening = c.in_ok-run.ensures.opening })
    walked (λ rest made. rw c.as_bytes.ensures.value (c.in_ok-text.ensures rest made))
    (λ done rest is. g.met.D.StreamSteps.continues c.args.what.now done rest _ _ is) in (
      _,
      (refl, inl all.2),
      part_behind _ _ _ _ _ all.1.lines (IfErr-at_err (λ e. IsPartWritten
          (watched_contents g.W.Write.contents c.walk_into.new.sink)
          (watched_contents g.W.Write.contents c.write_text.new.writer) c.as_bytes.result.now)
          is c.write_text.ensures.prefix),
    )
