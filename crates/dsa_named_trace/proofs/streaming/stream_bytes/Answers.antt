use Rattle.dsa_named_trace.proofs.streaming.stream_bytes.Goals as goal
use Rattle.std.proofs.{Common.{◌≡◌, Err, ap, inl, inr}, lemmas.Result.{err_from_is_err_and}}
use Rattle.dsa_scenario.specs.declared.faults.ScenarioFault.TheVariants.{Write, OutOfMemory}
use Rattle.dsa_scenario.proofs.Whole.{has_head, faulty_head}

pub returns-in_err-stream_head-clause-part : goal.returns-in_err-stream_head-clause-part
returns-in_err-stream_head-clause-part g c is =
    let p = err_from_is_err_and c.from_residual-in_err-stream_head.result c.from_residual-in_err-stream_head.ensures.1
    in
    let refused : c.in_err-stream_head.field-0.0 ≡ Write = cc in
    c.in_err-stream_head.ensures.part (ap Err refused) c.args.bytes.now
    (has_head _ _ _ _ _ c.in_ok-value.ensures.ok c.in-Some.ensures)

pub returns-in_err-stream_head-clause-lines : goal.returns-in_err-stream_head-clause-lines
returns-in_err-stream_head-clause-lines g c is =
    let p = err_from_is_err_and c.from_residual-in_err-stream_head.result c.from_residual-in_err-stream_head.ensures.1
    in
    let memory : c.in_err-stream_head.field-0.0 ≡ OutOfMemory = cc in
    c.in_err-stream_head.ensures.lines (ap Err memory) c.args.bytes.now
    (has_head _ _ _ _ _ c.in_ok-value.ensures.ok c.in-Some.ensures)

pub returns-in_err-stream_head-clause-document : goal.returns-in_err-stream_head-clause-document
returns-in_err-stream_head-clause-document g c =
    let p = err_from_is_err_and c.from_residual-in_err-stream_head.result c.from_residual-in_err-stream_head.ensures.1
    in
    rw (p.1, p.2) (elim c.in_err-stream_head.ensures.document [
      | inl refused ↦ inl refused
      | inr others ↦
          inr (faulty_head _ _ _ _ _ (has_head _ _ _ _ _ c.in_ok-value.ensures.ok c.in-Some.ensures) others)
    ])

pub returns-clause-ok : goal.returns-clause-ok
returns-clause-ok g c =
    c.in_ok-stream_head.ensures.ok c.args.bytes.now (has_head _ _ _ _ _ c.in_ok-value.ensures.ok c.in-Some.ensures)
