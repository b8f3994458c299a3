use Rattle.dsa_cli.proofs.words.write_trace.Goals as goal
use Rattle.std.proofs.Common.{Err, ap, inl, inr, refl}
use Rattle.dsa_cli.proofs.OnTheWay.{memory_or_not}

pub returns-in-Ok-clause-done : goal.returns-in-Ok-clause-done
returns-in-Ok-clause-done g c zero =
    let done = c.in-Ok.ensures.ok in
    inl (done.0, done.1, done.2, (refl, done.3), done.4)

pub returns-in-Err-clause-failed : goal.returns-in-Err-clause-failed
returns-in-Err-clause-failed g c one = (
  c.in-Err.fault,
  (
    (
      c.in-Err.ensures.fault,
      λ other. elim (memory_or_not c.in-Err.fault) [
        | inl memory ↦ elim (c.in-Err.ensures.lines (ap Err memory)) [
          | inl kept ↦ inl kept
          | inr lines ↦ inr (memory, lines)
        ]
        | inr more ↦ inl (c.in-Err.ensures.nothing other more)
      ],
      λ e. c.in-Err.ensures.prefix (ap Err e),
    ),
    λ e. c.in-Err.ensures.writer.refused.0 (ap Err e),
  ),
  c.tell_reader.ensures.line,
)
