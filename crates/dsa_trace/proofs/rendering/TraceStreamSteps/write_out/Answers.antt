use Rattle.dsa_trace.proofs.rendering.TraceStreamSteps.write_out.Goals as goal
use Rattle.std.proofs.Common.{inl, inr, ap}
use Rattle.std.proofs.lemmas.{Bool.{cases_lt}}
use Rattle.std.specs.Prelude.{string_bytes, string_len}
use Rattle.dsa_scenario.proofs.StreamWrites.{page_written, page_left}
use Rattle.dsa_trace.specs.Lines.{trace_line_of_step}

pub returns-clause-ok : goal.returns-clause-ok
returns-clause-ok g c =
    let form = c.args.self.now in
    elim (cases_lt (string_len c.args.page.now) 16384) [
      | inl short ↦
          let left = c.write_piece.ensures.short short in
          rw left.0 (page_left (trace_line_of_step form) string_bytes _ _ c.args.page.now c.write_piece.new.page left.1
          (ap (λ w. g.W.Write.contents w.writer.now) left.2))
      | inr long ↦
          page_written (trace_line_of_step form) string_bytes _ _ c.args.page.now c.write_piece.new.page
          c.write_piece.result
          (c.write_piece.ensures.whole long) (c.write_piece.ensures.empty long)
    ]
