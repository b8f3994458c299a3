use Rattle.dsa_queues.proofs.queues.Queues.set_phases.Goals as goal
use Rattle.std.proofs.{Common.{ℕ, ◌≡◌, ◌<◌, cond, length, get_or, refl, arith}, lemmas.Grind.{common_steps}}
use Rattle.dsa_regs.specs.{declared.Phase.{Phase, TheVariants.{Off}}, Command.{queues_in}}
use Rattle.dsa_book.specs.{State.{phase_at}, Commands.{is_among}}
use Rattle.dsa_queues.proofs.Tables.{renewed-written, renewed-kept}
use Rattle.dsa_queues.proofs.queues.Queues.set_phases.Goals.{then-contains, else-contains}

pub loop-queue-preserved : goal.loop-queue-preserved
loop-queue-preserved c =
    let f : ℕ → Phase = λ q. cond (is_among (queues_in c.args.named.now) q) c.args.phase
    (phase_at c.args.self.now.setup q) in
    let q = c.loop-queue.queue in let phases = c.args.self.now.setup.phases in
    let within : q < length phases = grind (arith, c.loop-queue-test.true, c.caps-queue-end.ensures) in
    elim c.if-contains.branch [
      | then-contains w ↦
          let is : c.args.phase ≡ f q = grind (arith, common_steps, w.if-contains.true, c.contains.ensures) in
          let more = renewed-written f q c.args.phase phases within is in
          rw (w.self-is, w.set_phase.ensures.place, c.loop-queue.invariant, more) refl
      | else-contains w ↦
          let is : f q ≡ get_or phases q Off = grind (arith, common_steps, w.if-contains.false, c.contains.ensures) in
          rw (w.self-is, c.loop-queue.invariant, renewed-kept f q phases Off within is) refl
    ]
