use Rattle.dsa_workers.proofs.scripts.Run.issue_all.Goals as goal
use Rattle.std.proofs.Common.{◌+◌, ◌∙◌, ap, sym, subst, refl, true, false, not, arith}
use Rattle.dsa_workers.proofs.Calls.{AsksSoFar, asks_none, asks_more, asks_full, ends_done, ends_out, moved_by}
use Rattle.dsa_workers.proofs.scripts.Run.issue_all.Goals.{then-goes_on, else-goes_on}
use Rattle.std.proofs.lemmas.Grind.{common_steps}

pub loop-turn-init : goal.loop-turn-init
loop-turn-init g c = asks_none _ _ _ _

pub returns-then-at-script : goal.returns-then-at-script
returns-then-at-script g c =
    ends_done _ _ _ _ _ c.loop-turn.turn c.loop-turn.turn c.loop-turn.at c.loop-turn.invariant.so_far refl
    (omega arith) (omega arith)

pub returns-then-is_full : goal.returns-then-is_full
returns-then-is_full g c =
    asks_full _ _ _ _ _ _ _ c.loop-turn.turn c.loop-turn.at c.loop-turn.waits _ c.issue_once-reply.result
    c.loop-turn.invariant c.issue_once-reply.ensures
    (sym c.is_full.ensures ∙ c.if-is_full.true) (omega arith) (omega arith)

pub loop-turn-preserved : goal.loop-turn-preserved
loop-turn-preserved g c =
    subst (λ b. AsksSoFar g.L.Sharing.caps g.L.Sharing.capacity c.args.script.now c.args.seat.now
    c.issue_once-reply.new.seat
    (c.loop-turn.turn + 1) c.if-goes_on.at b) (ap not (sym c.goes_on-waits.ensures))
    (asks_more _ _ _ _ _ _ c.loop-turn.turn c.loop-turn.at c.if-goes_on.at c.loop-turn.waits _ c.issue_once-reply.result
    c.loop-turn.invariant c.issue_once-reply.ensures
    (sym c.is_full.ensures ∙ c.if-is_full.false) (omega arith)
    (elim c.if-goes_on.branch [
      | then-goes_on w ↦ moved_by _ true _ _ (sym c.goes_on.ensures ∙ w.if-goes_on.true) w.at-is
      | else-goes_on w ↦ moved_by _ false _ _ (sym c.goes_on.ensures ∙ w.if-goes_on.false) (omega (arith, w.at-is))
    ]))

pub returns-then-at-script-2 : goal.returns-then-at-script-2
returns-then-at-script-2 g c =
    ends_done _ _ _ _ _ c.loop-turn.turn c.args.self.now.turns c.loop-turn.at c.loop-turn.invariant.so_far
    (omega arith) (omega arith) (omega arith)

pub returns-else-at-script-2 : goal.returns-else-at-script-2
returns-else-at-script-2 g c =
    ends_out _ _ _ _ _ c.loop-turn.turn c.loop-turn.at c.loop-turn.invariant.so_far (omega arith) (omega arith)

pub bounds-script-at : goal.bounds-script-at
bounds-script-at = grind (arith, common_steps)
