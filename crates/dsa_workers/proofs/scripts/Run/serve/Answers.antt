use Rattle.dsa_workers.proofs.scripts.Run.serve.Goals as goal
use Rattle.std.proofs.Common.{ap, ◌∙◌, ◌+◌, sym, subst, arith}
use Rattle.dsa_workers.proofs.Turns.{TurnsSoFar, turns_none, turns_quiet, turns_more, turns_full, turns_out}
use Rattle.dsa_workers.proofs.scripts.Run.serve.Goals.{in-Some+else-is_full, in_default}

pub loop-turn-init : goal.loop-turn-init
loop-turn-init g c = record {
  so_far = turns_none _ _ c.args.script.now c.args.seat.now c.args.tickets.now.tickets c.requires.0;
  room = omega (arith, c.requires.1);
}

pub returns-then-is_full : goal.returns-then-is_full
returns-then-is_full g c =
    turns_full _ _ c.args.script.now c.args.self.now.turns _ _ _ c.loop-turn.turn c.loop-turn.tickets.tickets
    c.in-Some.reply c.loop-turn.invariant.so_far
    c.in-Some.ensures.called c.in-Some.ensures.answer c.in-Some.ensures.seat (sym c.is_full.ensures
    ∙ c.if-is_full.true) (omega arith)

pub loop-turn-preserved : goal.loop-turn-preserved
loop-turn-preserved g c =
    let was = c.loop-turn.invariant in
    elim c.match-serve_once.branch [
      | in-Some+else-is_full w ↦
          let more = turns_more _ _ c.args.script.now _ _ _ c.loop-turn.turn c.loop-turn.tickets.tickets w.in-Some.reply
          was.so_far
          w.in-Some.ensures.called w.in-Some.ensures.answer w.in-Some.ensures.seat (sym w.is_full.ensures
          ∙ w.if-is_full.false) in
          record {
            so_far = subst (λ ts. TurnsSoFar g.L.Sharing.caps g.L.Sharing.capacity c.args.script.now c.args.seat.now
                c.serve_once.new.seat
                (c.loop-turn.turn + 1) ts)
                (sym (ap (λ t. t.tickets) w.tickets-is ∙ w.note.ensures.tickets)) more;
            room = omega (arith, ap (λ t. t.room) w.tickets-is, w.note.ensures.room, was.room);
          }
      | in_default w ↦
          let quiet = turns_quiet _ _ c.args.script.now _ _ _ c.loop-turn.turn c.loop-turn.tickets.tickets was.so_far
          w.in_default.ensures.called w.in_default.ensures.answer w.in_default.ensures.seat in
          record {
            so_far = subst (λ ts. TurnsSoFar g.L.Sharing.caps g.L.Sharing.capacity c.args.script.now c.args.seat.now
                c.serve_once.new.seat
                (c.loop-turn.turn + 1) ts)
                (sym (ap (λ t. t.tickets) w.tickets-is)) quiet;
            room = omega (arith, ap (λ t. t.room) w.tickets-is, was.room);
          }
    ]

pub returns : goal.returns
returns g c = turns_out _ _ _ _ _ _ c.loop-turn.turn c.loop-turn.tickets.tickets c.loop-turn.invariant.so_far
    (omega arith)
