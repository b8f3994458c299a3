use Rattle.dsa_queues.proofs.queues.Queues.set_live_phases.Goals as goal
use Rattle.std.proofs.{Common.{ℕ, ◌∙◌, ◌<◌, cond, not, length, refl, ap, arith}, lemmas.Grind.{common_steps}}
use Rattle.dsa_base.proofs.Renewing.{renewed-next}
use Rattle.dsa_regs.specs.declared.Phase.{Phase, TheVariants.{Off}}
use Rattle.dsa_book.specs.State.{phase_at, is_off}
use Rattle.dsa_queues.specs.Queues.{Kept}
use Rattle.dsa_queues.proofs.Tables.{renewed-written, renewed-kept}
use Rattle.dsa_queues.proofs.queues.Queues.set_live_phases.Goals.{then-ne, else-ne}

pub loop-queue-preserved : goal.loop-queue-preserved
loop-queue-preserved c =
    let f : ℕ → Phase = λ q. cond (not (is_off (phase_at c.args.self.now.setup q))) c.args.phase
    (phase_at c.args.self.now.setup q) in
    let within : c.loop-queue.queue < length c.args.self.now.setup.phases =
    grind (arith, c.loop-queue-test.true, c.caps-queue-end.ensures) in
    let here = ap (λ (k : Kept). phase_at k.setup c.loop-queue.queue) c.loop-queue.invariant
    ∙ renewed-next f c.loop-queue.queue c.args.self.now.setup.phases Off within in
    elim c.if-ne.branch [
      | then-ne w ↦ rw (
        w.self-is,
        w.set_phase.ensures.place,
        c.loop-queue.invariant,
        renewed-written f c.loop-queue.queue c.args.phase c.args.self.now.setup.phases within
            (grind (arith, common_steps, here, w.if-ne.true, c.ne.ensures, c.phase.ensures.value)),
      ) refl
      | else-ne w ↦ rw (
        w.self-is,
        c.loop-queue.invariant,
        renewed-kept f c.loop-queue.queue c.args.self.now.setup.phases Off within
            (grind (arith, common_steps, here, w.if-ne.false, c.ne.ensures, c.phase.ensures.value)),
      ) refl
    ]
