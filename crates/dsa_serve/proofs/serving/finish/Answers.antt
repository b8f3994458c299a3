use Rattle.dsa_serve.proofs.serving.finish.Goals as goal
use Rattle.std.proofs.lemmas.Result.{err_from_is_err_and, on_ok_weaker}
use Rattle.dsa_serve.proofs.Stops.{end_memory_stops, end_stops, all_answered, ends_blank, of_both}

pub returns-in_err-add_end-clause-stopped : goal.returns-in_err-add_end-clause-stopped
returns-in_err-add_end-clause-stopped g c =
    let p = err_from_is_err_and c.from_residual.result c.from_residual.ensures.1 in
    rw (p.1, p.2) (λ friendly ended had left held at_end h. end_memory_stops friendly ended had left
    held _ _ at_end h)

pub returns-clause-ok : goal.returns-clause-ok
returns-clause-ok g c =
    on_ok_weaker c.write_text.result
    (λ whole friendly ended had left held h. all_answered friendly ended had left held _ _
    c.as_bytes.result.now c.args.dialogue.now (ends_blank _ _ _ c.args.dialogue.now c.new-text.ensures.bytes
    c.as_bytes.ensures.value c.in_ok-add_end.ensures)
    whole h)
    c.write_text.ensures.whole

pub returns-clause-stopped : goal.returns-clause-stopped
returns-clause-stopped g c =
    of_both c.write_text.result _ _ _
    (λ e is cut friendly ended had left held at_end h. rw is
    (end_stops friendly ended had left held _ _ c.as_bytes.result.now cut.0
    c.args.dialogue.now at_end
    (ends_blank _ _ _ c.args.dialogue.now c.new-text.ensures.bytes c.as_bytes.ensures.value
    c.in_ok-add_end.ensures) cut.1 cut.2 h))
    c.write_text.ensures.fault c.write_text.ensures.prefix
