use Rattle.dsa_serve.proofs.serving.serve_lines.Goals as goal
use Rattle.std.proofs.{Common.{Ok, ap, arith, ◌∙◌}, lemmas.Result.{err_from_is_err_and}}
use Rattle.dsa_serve.proofs.Counts.{asked_on, read_then, read_told}

pub returns-in_err-turn-clause-reader : goal.returns-in_err-turn-clause-reader
returns-in_err-turn-clause-reader g c =
    let p = err_from_is_err_and c.from_residual.result c.from_residual.ensures.1 in
    let before = c.turns.invariant in
    rw (p.1, p.2) (read_then g.R.Read.remaining _ c.args.reader.now c.turns.reader c.turn.new.reader
    (record { same = before.same_reader; asked = before.asked; well = before.well })
    (read_told g.R.Read.remaining _ _ _ c.in_err-turn.ensures.reader))

pub turns-smaller : goal.turns-smaller
turns-smaller g c = omega (arith, c.in_ok-turn.ensures.counted, c.turn.ensures.fits)

pub turns-preserved : goal.turns-preserved
turns-preserved g c = record {
  room = omega (arith, c.turns.invariant.room, c.turn.auto.chunk);
  same_reader = c.in_ok-turn.ensures.reader.same ∙ c.turns.invariant.same_reader;
  same_writer = c.in_ok-turn.ensures.writer.same ∙ c.turns.invariant.same_writer;
  well = c.in_ok-turn.ensures.reader.failed.1 ∙ c.turns.invariant.well;
  taken = c.in_ok-turn.ensures.writer.refused.1 ∙ c.turns.invariant.taken;
  asked = asked_on g.R.Read.remaining c.args.reader.now c.turns.reader c.turn.new.reader 0 0
      c.turns.invariant.asked
      (c.in_ok-turn.ensures.asked_for_more (ap Ok c.if-branch.true));
  course = λ friendly had held h. c.in_ok-turn.ensures.ok friendly had held
      (c.turns.invariant.course friendly had held h);
}

pub returns-clause-reader : goal.returns-clause-reader
returns-clause-reader g c = record {
  same = c.in_ok-turn.ensures.reader.same ∙ c.turns.invariant.same_reader;
  asked = asked_on g.R.Read.remaining c.args.reader.now c.turns.reader c.turn.new.reader 0 1
      c.turns.invariant.asked c.in_ok-turn.ensures.reader.asked;
  failed = (λ is. absurd cc, c.in_ok-turn.ensures.reader.failed.1 ∙ c.turns.invariant.well, tt);
  too_long = λ is. absurd cc;
}
