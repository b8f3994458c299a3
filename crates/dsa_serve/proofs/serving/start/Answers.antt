use Rattle.dsa_serve.proofs.serving.start.Goals as goal
use Rattle.std.proofs.{Common.{◌≤◌, ◌^◌, inl, inr, length, arith, refl}, lemmas.Result.{err_from_is_err_and}}
use Rattle.dsa_serve.proofs.{Counts.{not_written, read_done, written_told}, Stops.{opening_stops, first_write_stops}}

pub returns-in_err-dialogue-clause-stopped : goal.returns-in_err-dialogue-clause-stopped
returns-in_err-dialogue-clause-stopped g c =
    let p =
    err_from_is_err_and c.from_residual-in_err-dialogue.result c.from_residual-in_err-dialogue.ensures.1 in
    let bytes = c.in_ok-front.ensures.bytes in
    let short : length c.in_ok-front.front.first.items ≤ 2 ^ 20 =
    omega (arith, c.in_ok-front.ensures.fits, c.in_ok-front.front.first.ok.0) in
    rw (p.1, p.2) (opening_stops c.args.is_friendly _ _ _ _ bytes.0 _ _ _ _ bytes.1 bytes.2 short bytes.3
    (λ going. let last = c.in_ok-front.ensures.last_read going in
    let room = c.in_ok-front.ensures.room going in
    omega (arith, last, room)) c.in_ok-front.ensures.end c.in_err-dialogue.ensures.err)

pub returns-in_err-write_text-clause-stopped : goal.returns-in_err-write_text-clause-stopped
returns-in_err-write_text-clause-stopped g c =
    let p = err_from_is_err_and c.from_residual-in_err-write_text.result
    c.from_residual-in_err-write_text.ensures.1 in
    let bytes = c.in_ok-front.ensures.bytes in
    let short : length c.in_ok-front.front.first.items ≤ 2 ^ 20 =
    omega (arith, c.in_ok-front.ensures.fits, c.in_ok-front.front.first.ok.0) in
    let cut = c.in_err-write_text.ensures.prefix in
    rw (p.1, p.2, c.in_err-write_text.ensures.fault)
    (first_write_stops c.args.is_friendly _ _ _ _ _ bytes.0 _ _ _ _ cut.0 c.in_ok-dialogue.dialogue.session _
    bytes.1 bytes.2 short bytes.3 c.in_ok-front.ensures.end c.as_bytes.ensures.value
    (c.in_ok-dialogue.ensures.ok c.new-text.ensures.bytes) cut.1
    cut.2)

pub returns-in_err-front-clause-writer : goal.returns-in_err-front-clause-writer
returns-in_err-front-clause-writer g c =
    let p = err_from_is_err_and c.from_residual.result c.from_residual.ensures.1 in
    not_written c.from_residual.result c.args.writer.now (rw (p.1, p.2) c.in_err-front.ensures.faults)

pub returns-clause-ok : goal.returns-clause-ok
returns-clause-ok g c =
    let bytes = c.in_ok-front.ensures.bytes in
    record {
      input = bytes.0;
      first = c.in_ok-front.front.first.items;
      behind = c.in_ok-front.front.behind.items;
      output = c.as_bytes.result.now;
      read = bytes.1;
      written = c.in_ok-write_text.ensures.whole;
      unended = bytes.2;
      short = omega (arith, c.in_ok-front.ensures.fits, c.in_ok-front.front.first.ok.0);
      front = bytes.3;
      serving = rw c.as_bytes.ensures.value (c.in_ok-dialogue.ensures.ok c.new-text.ensures.bytes);
    }

pub returns-in_err-write_text-clause-reader : goal.returns-in_err-write_text-clause-reader
returns-in_err-write_text-clause-reader g c =
    let p = err_from_is_err_and c.from_residual-in_err-write_text.result
    c.from_residual-in_err-write_text.ensures.1 in
    let before = c.in_ok-front.ensures.reader in
    rw (p.1, p.2, c.in_err-write_text.ensures.fault) (read_done g.R.Read.remaining _ _ _ (inr (inl refl))
    (λ is. absurd cc) (record { same = before.same; asked = before.asked; well = before.failed.1 }))

pub returns-in_err-write_text-clause-writer : goal.returns-in_err-write_text-clause-writer
returns-in_err-write_text-clause-writer g c =
    let p = err_from_is_err_and c.from_residual-in_err-write_text.result
    c.from_residual-in_err-write_text.ensures.1 in
    rw (p.1, p.2) (written_told _ _ _ c.in_err-write_text.ensures.writer)
