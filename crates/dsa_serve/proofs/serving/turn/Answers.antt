use Rattle.dsa_serve.proofs.serving.turn.Goals as goal
use Rattle.std.proofs.{Common.{take, arith}, lemmas.Result.{err_from_is_err_and}}
use Rattle.dsa_serve.proofs.Stops.{course_on, unread_stops, memory_stops, write_stops, from_blank}

pub returns-in_err-count-clause-stopped : goal.returns-in_err-count-clause-stopped
returns-in_err-count-clause-stopped g c =
    let p = err_from_is_err_and c.from_residual.result c.from_residual.ensures.1 in
    rw (p.1, p.2) (λ friendly had held h. unread_stops friendly _ had _ _ held _ _ _
    c.in_err-count.ensures.bytes c.in_err-count.ensures.faults h)

pub returns-in_err-feed-clause-stopped : goal.returns-in_err-feed-clause-stopped
returns-in_err-feed-clause-stopped g c =
    let p = err_from_is_err_and c.from_residual-in_err-feed.result c.from_residual-in_err-feed.ensures.1 in
    rw (p.1, p.2) (λ friendly had held h. memory_stops friendly _ had _ _ held _
    (take c.in_ok-count.count c.read_once.new.chunk) _ c.in_ok-count.ensures.bytes.0
    (omega (arith, c.in_ok-count.ensures.bound.0, c.in_ok-count.ensures.bound.1, c.read_once.auto.chunk)) h)

pub returns-in_err-write_text-clause-stopped : goal.returns-in_err-write_text-clause-stopped
returns-in_err-write_text-clause-stopped g c =
    let p = err_from_is_err_and c.from_residual-in_err-write_text.result
    c.from_residual-in_err-write_text.ensures.1 in
    let cut = c.in_err-write_text.ensures.prefix in
    rw (p.1, p.2, c.in_err-write_text.ensures.fault) (λ friendly had held h.
    write_stops friendly had _ _ held _ _ (take c.in_ok-count.count c.read_once.new.chunk)
    c.as_bytes.result.now cut.0 c.args.dialogue.now c.feed.new.self c.in_ok-count.ensures.bytes.0 cut.1 cut.2
    (from_blank _ _ _ _ c.args.dialogue.now c.feed.new.self c.clear.ensures.bytes c.as_bytes.ensures.value
    c.in_ok-feed.ensures) h)

pub returns-clause-ok : goal.returns-clause-ok
returns-clause-ok g c friendly had held h =
    course_on friendly had _ _ held _ _ (take c.in_ok-count.count c.read_once.new.chunk) c.as_bytes.result.now
    c.args.dialogue.now
    c.feed.new.self
    c.in_ok-count.ensures.bytes.0 c.in_ok-write_text.ensures.whole
    (from_blank _ _ _ _ c.args.dialogue.now c.feed.new.self c.clear.ensures.bytes c.as_bytes.ensures.value
    c.in_ok-feed.ensures) h
