use Rattle.dsa_named_trace.proofs.streaming.stream_head.{Given.{Over}, Goals.{After-deref}}
use Rattle.dsa_named_trace.proofs.streaming.stream_head.Goals as goal
use Rattle.std.proofs.Common.{◌≡◌, ◌∙◌, ℕ, List, Some, ap, inl, inr, map, refl, sym}
use Rattle.std.proofs.{KnownBytes.{Appends-trans}, lemmas.Result.{err_from_is_err_and, on_ok_weaker, IfErr-at_err}}
use Rattle.serde_json.specs.View.{view}
use Rattle.dsa_scenario.specs.declared.faults.ScenarioFault.TheVariants.{Write, OutOfMemory}
use Rattle.dsa_scenario.specs.{Document.{HasHead}, Streams.{IsPartWritten}, Watched.{watched_contents}}
use Rattle.dsa_scenario.proofs.{Streams.{IsOpened}, StreamWrites.{part_behind}}
use Rattle.dsa_named_trace.proofs.Streams.{bad_head, cut_of_stop, lines_of_stop, stopped_whole}
use Rattle.dsa_named_trace.proofs.Streams.{trace_behind, trace_memory, trace_of_rest, trace_stopped}

-- the head of these bytes opened the run
opened : (g : Over) (c : After-deref g) (bytes : List ℕ)
    → HasHead bytes c.args.head.now.caps c.args.head.now.capacity (map view c.args.head.now.steps.now)
    → IsOpened bytes c.args.head.now.caps c.args.head.now.capacity (map view c.args.head.now.steps.now)
    c.deref.result.now
opened g c bytes head = record {
  head = head;
  asked = c.in_ok-actions.ensures.ok ∙ ap (map Some) (sym c.deref.ensures.value);
  opening = c.in_ok-run.ensures.opening;
}

pub returns-in_err-actions-clause-document : goal.returns-in_err-actions-clause-document
returns-in_err-actions-clause-document g c =
    let p = err_from_is_err_and c.from_residual.result c.from_residual.ensures.1 in
    rw (p.1, p.2) (elim c.in_err-actions.ensures.bad [
      | inl memory ↦ inr (inl memory)
      | inr bad ↦ inr (inr (bad_head c.args.head.now.caps c.args.head.now.capacity _ _ bad))
    ])

pub returns-in_err-page-clause-writer : goal.returns-in_err-page-clause-writer
returns-in_err-page-clause-writer g c =
    let p = err_from_is_err_and c.from_residual-in_err-page.result c.from_residual-in_err-page.ensures.1 in
    rw (p.1, p.2) (trace_stopped g.W.Write.contents c.args.what.form _ _ _ _ (map view c.args.head.now.steps.now) _ _
    c.in_err-page.ensures.fault
    (c.in_err-page.ensures.stopped c.args.head.now.caps c.args.head.now.capacity c.in_ok-run.ensures.first))

pub returns-in_err-page-clause-nothing : goal.returns-in_err-page-clause-nothing
returns-in_err-page-clause-nothing g c =
    let p = err_from_is_err_and c.from_residual-in_err-page.result c.from_residual-in_err-page.ensures.1 in
    rw (p.1, p.2) (λ other more. elim c.in_err-page.ensures.fault [
      | inl memory ↦ absurd (more memory)
      | inr refused ↦ absurd (other refused)
    ])

pub returns-in_err-page-clause-part : goal.returns-in_err-page-clause-part
returns-in_err-page-clause-part g c is bytes head =
    let p = err_from_is_err_and c.from_residual-in_err-page.result c.from_residual-in_err-page.ensures.1 in
    let refused : c.in_err-page.field-0.0 ≡ Write = cc in
    let stopped = c.in_err-page.ensures.stopped c.args.head.now.caps c.args.head.now.capacity
    c.in_ok-run.ensures.first in
    let cut = cut_of_stop g.W.Write.contents c.args.what.form _ _ bytes _ _ _ _
    (opened g (goal.at.returns-in_err-page-clause-part g c).After-deref bytes head) (stopped.0 refused) in
    (cut.0, (refl, inr cut.1), cut.2)

pub returns-in_err-page-clause-lines : goal.returns-in_err-page-clause-lines
returns-in_err-page-clause-lines g c is bytes head =
    let p = err_from_is_err_and c.from_residual-in_err-page.result c.from_residual-in_err-page.ensures.1 in
    let memory : c.in_err-page.field-0.0 ≡ OutOfMemory = cc in
    let stopped = c.in_err-page.ensures.stopped c.args.head.now.caps c.args.head.now.capacity
    c.in_ok-run.ensures.first in
    inr (lines_of_stop g.W.Write.contents c.args.what.form _ _ bytes _ _ _ _
    (opened g (goal.at.returns-in_err-page-clause-lines g c).After-deref bytes head)
    (stopped.1 (λ refused. absurd cc)))

pub returns-in_err-text-clause-writer : goal.returns-in_err-text-clause-writer
returns-in_err-text-clause-writer g c =
    let p = err_from_is_err_and c.from_residual-in_err-text.result c.from_residual-in_err-text.ensures.1 in
    let walked = c.in_ok-page.ensures.ok c.args.head.now.caps c.args.head.now.capacity c.in_ok-run.ensures.first in
    rw (p.1, p.2) (trace_memory g.W.Write.contents c.args.what.form _ _ _ walked.made.1)

pub returns-in_err-text-clause-lines : goal.returns-in_err-text-clause-lines
returns-in_err-text-clause-lines g c is bytes head =
    let walked = c.in_ok-page.ensures.ok c.args.head.now.caps c.args.head.now.capacity c.in_ok-run.ensures.first in
    inr (lines_of_stop g.W.Write.contents c.args.what.form _ _ bytes _ _ _ _
    (opened g (goal.at.returns-in_err-text-clause-lines g c).After-deref bytes head)
    (stopped_whole g.W.Write.contents c.args.what.form _ _ _ _ _ _ _ _ _ walked))

pub returns-clause-writer : goal.returns-clause-writer
returns-clause-writer g c =
    let walked = c.in_ok-page.ensures.ok c.args.head.now.caps c.args.head.now.capacity c.in_ok-run.ensures.first in
    trace_behind g.W.Write.contents c.args.what.form _ _ _ _ c.write_text.result walked.made.1
    c.write_text.ensures.writer

pub returns-clause-ok : goal.returns-clause-ok
returns-clause-ok g c =
    on_ok_weaker c.write_text.result
    (λ whole bytes head.
    let walked = c.in_ok-page.ensures.ok c.args.head.now.caps c.args.head.now.capacity c.in_ok-run.ensures.first in
    let all = trace_of_rest g.W.Write.contents c.args.what.form _ _ bytes _ _ _ _ _ _ _ _ c.as_bytes.result.now
    (opened g (goal.at.returns-clause-ok g c).After-deref bytes head)
    walked (λ rest made. rw c.as_bytes.ensures.value (c.in_ok-text.ensures rest made)) in
    (_, all.2, Appends-trans _ _ _ _ _ all.1.lines whole))
    c.write_text.ensures.whole

pub returns-clause-part : goal.returns-clause-part
returns-clause-part g c is bytes head =
    let walked = c.in_ok-page.ensures.ok c.args.head.now.caps c.args.head.now.capacity c.in_ok-run.ensures.first in
    let all = trace_of_rest g.W.Write.contents c.args.what.form _ _ bytes _ _ _ _ _ _ _ _ c.as_bytes.result.now
    (opened g (goal.at.returns-clause-part g c).After-deref bytes head)
    walked (λ rest made. rw c.as_bytes.ensures.value (c.in_ok-text.ensures rest made)) in (
      _,
      (refl, inl all.2),
      part_behind _ _ _ _ _ all.1.lines (IfErr-at_err (λ e. IsPartWritten
          (watched_contents g.W.Write.contents c.walk_on.new.writer)
          (watched_contents g.W.Write.contents c.write_text.new.writer) c.as_bytes.result.now)
          is c.write_text.ensures.prefix),
    )
