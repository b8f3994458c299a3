use Rattle.dsa_serve.proofs.serving.serve_dialogue.Goals as goal
use Rattle.std.proofs.Common.{◌≡◌, ◌^◌, true, false, length, arith, ◌∙◌, inl, inr}
use Rattle.std.proofs.lemmas.Result.{err_from_is_err_and, on_ok_weaker, IfErr-weaker}
use Rattle.dsa_serve.proofs.Counts.{asked_on, read_then, read_done, read_told, written_then, written_told}
use Rattle.dsa_serve.proofs.serving.serve_dialogue.Goals.{then-not-it+in_ok-serve_lines, else-not-it}

pub returns-in_err-serve_lines-clause-stopped : goal.returns-in_err-serve_lines-clause-stopped
returns-in_err-serve_lines-clause-stopped g c =
    let p = err_from_is_err_and c.from_residual-in_err-serve_lines.result
    c.from_residual-in_err-serve_lines.ensures.1 in
    let size : length c.start.new.chunk ≡ 2 ^ 16 = omega (arith, c.start.auto.chunk) in
    rw (p.1, p.2) (rw size at (c.in_err-serve_lines.ensures.stopped _ _ _
    (rw c.if-not-it.true at c.in_ok-it.ensures.ok)))

pub returns-clause-ok : goal.returns-clause-ok
returns-clause-ok g c =
    let had = g.R.Read.remaining c.args.reader.now.reader.now in
    let left = g.R.Read.remaining c.if-not-it.reader.reader.now in
    let held = g.W.Write.contents c.args.writer.now.writer.now in
    elim c.if-not-it.branch [
      | then-not-it+in_ok-serve_lines w ↦
          on_ok_weaker c.finish.result
          (λ finishes.
          let it = finishes c.args.is_friendly false had left held (rw (w.reader-is, w.writer-is, w.it-is)
          (w.in_ok-serve_lines.ensures.ok c.args.is_friendly had held
          (rw w.if-not-it.true at c.in_ok-it.ensures.ok))) in
          (it.0, it.1, it.2, rw w.reader-is w.in_ok-serve_lines.ensures.end, it.3, it.4)) c.finish.ensures.ok
      | else-not-it w ↦
          on_ok_weaker c.finish.result
          (λ finishes.
          let it = finishes c.args.is_friendly true had left held (rw (w.reader-is, w.writer-is, w.it-is)
          (rw w.if-not-it.false at c.in_ok-it.ensures.ok)) in
          (it.0, it.1, it.2, rw w.reader-is (c.in_ok-it.ensures.end w.if-not-it.false), it.3, it.4))
          c.finish.ensures.ok
    ]

pub returns-clause-stopped : goal.returns-clause-stopped
returns-clause-stopped g c =
    let had = g.R.Read.remaining c.args.reader.now.reader.now in
    let left = g.R.Read.remaining c.if-not-it.reader.reader.now in
    let held = g.W.Write.contents c.args.writer.now.writer.now in
    elim c.if-not-it.branch [
      | then-not-it+in_ok-serve_lines w ↦
          IfErr-weaker c.finish.result _ _
          (λ e stops. stops c.args.is_friendly false had left held
          (rw w.reader-is w.in_ok-serve_lines.ensures.end) (rw (w.reader-is, w.writer-is, w.it-is)
          (w.in_ok-serve_lines.ensures.ok c.args.is_friendly had held
          (rw w.if-not-it.true at c.in_ok-it.ensures.ok))))
          c.finish.ensures.stopped
      | else-not-it w ↦
          IfErr-weaker c.finish.result _ _
          (λ e stops. stops c.args.is_friendly true had left held
          (rw w.reader-is (c.in_ok-it.ensures.end w.if-not-it.false)) (rw (w.reader-is, w.writer-is, w.it-is)
          (rw w.if-not-it.false at c.in_ok-it.ensures.ok))) c.finish.ensures.stopped
    ]

-- what was read and written before the end
pub returns-clause-reader : goal.returns-clause-reader
returns-clause-reader g c =
    read_done g.R.Read.remaining c.finish.result c.args.reader.now c.if-not-it.reader c.finish.ensures.late
    c.finish.ensures.not_read (elim c.if-not-it.branch [
      | then-not-it+in_ok-serve_lines w ↦
          rw w.reader-is (record {
            same = w.in_ok-serve_lines.ensures.reader.same ∙ c.in_ok-it.ensures.reader.same;
            asked = asked_on g.R.Read.remaining c.args.reader.now c.start.new.reader w.serve_lines.new.reader
                0 1 (c.in_ok-it.ensures.asked_first w.if-not-it.true)
                w.in_ok-serve_lines.ensures.reader.asked;
            well = w.in_ok-serve_lines.ensures.reader.failed.1 ∙ c.in_ok-it.ensures.reader.failed.1;
          })
      | else-not-it w ↦
          rw w.reader-is (record {
            same = c.in_ok-it.ensures.reader.same;
            asked = c.in_ok-it.ensures.reader.asked;
            well = c.in_ok-it.ensures.reader.failed.1;
          })
    ])

pub returns-clause-writer : goal.returns-clause-writer
returns-clause-writer g c =
    written_then c.finish.result c.args.writer.now c.if-not-it.writer c.finish.new.writer
    (elim c.if-not-it.branch [
      | then-not-it+in_ok-serve_lines w ↦
          rw w.writer-is (
            w.in_ok-serve_lines.ensures.writer.same ∙ c.in_ok-it.ensures.writer.same,
            w.in_ok-serve_lines.ensures.writer.refused.1 ∙ c.in_ok-it.ensures.writer.refused.1,
          )
      | else-not-it w ↦ rw w.writer-is (c.in_ok-it.ensures.writer.same, c.in_ok-it.ensures.writer.refused.1)
    ]) c.finish.ensures.writer

pub returns-in_err-it-clause-reader : goal.returns-in_err-it-clause-reader
returns-in_err-it-clause-reader g c =
    let p = err_from_is_err_and c.from_residual.result c.from_residual.ensures.1 in
    rw (p.1, p.2) (read_told g.R.Read.remaining _ _ _ c.in_err-it.ensures.reader)

pub returns-in_err-it-clause-writer : goal.returns-in_err-it-clause-writer
returns-in_err-it-clause-writer g c =
    let p = err_from_is_err_and c.from_residual.result c.from_residual.ensures.1 in
    rw (p.1, p.2) (written_told _ _ _ c.in_err-it.ensures.writer)

pub returns-in_err-it-clause-ok : goal.returns-in_err-it-clause-ok
returns-in_err-it-clause-ok g c =
    let p = err_from_is_err_and c.from_residual.result c.from_residual.ensures.1 in rw p.1 tt

pub returns-in_err-it-clause-nothing : goal.returns-in_err-it-clause-nothing
returns-in_err-it-clause-nothing g c =
    let p = err_from_is_err_and c.from_residual.result c.from_residual.ensures.1 in
    rw (p.1, p.2) (λ early. c.in_err-it.ensures.nothing (λ write. early (inr (inl write))))

pub returns-in_err-serve_lines-clause-reader : goal.returns-in_err-serve_lines-clause-reader
returns-in_err-serve_lines-clause-reader g c =
    let p = err_from_is_err_and c.from_residual-in_err-serve_lines.result
    c.from_residual-in_err-serve_lines.ensures.1 in
    let before = c.in_ok-it.ensures in
    rw (p.1, p.2) (read_then g.R.Read.remaining _ c.args.reader.now c.start.new.reader c.serve_lines.new.reader
    (record { same = before.reader.same; asked = before.asked_first c.if-not-it.true; well = before.reader.failed.1 })
    (read_told g.R.Read.remaining _ _ _ c.in_err-serve_lines.ensures.reader))

pub returns-in_err-serve_lines-clause-writer : goal.returns-in_err-serve_lines-clause-writer
returns-in_err-serve_lines-clause-writer g c =
    let p = err_from_is_err_and c.from_residual-in_err-serve_lines.result
    c.from_residual-in_err-serve_lines.ensures.1 in
    let before = c.in_ok-it.ensures.writer in
    rw (p.1, p.2) (written_then _ c.args.writer.now c.start.new.writer c.serve_lines.new.writer
    (before.same, before.refused.1) (written_told _ _ _ c.in_err-serve_lines.ensures.writer))

pub returns-in_err-serve_lines-clause-ok : goal.returns-in_err-serve_lines-clause-ok
returns-in_err-serve_lines-clause-ok g c =
    let p = err_from_is_err_and c.from_residual-in_err-serve_lines.result
    c.from_residual-in_err-serve_lines.ensures.1 in rw p.1 tt

pub returns-in_err-serve_lines-clause-nothing : goal.returns-in_err-serve_lines-clause-nothing
returns-in_err-serve_lines-clause-nothing g c =
    let p = err_from_is_err_and c.from_residual-in_err-serve_lines.result
    c.from_residual-in_err-serve_lines.ensures.1 in
    rw (p.1, p.2) (λ early. absurd (early c.in_err-serve_lines.ensures.late))

pub returns-clause-nothing : goal.returns-clause-nothing
returns-clause-nothing g c =
    IfErr-weaker c.finish.result _ _ (λ e late early. absurd (early late))
    c.finish.ensures.late
