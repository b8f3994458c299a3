use Rattle.dsa_c.proofs.why.has_offer.Goals as goal
use Rattle.std.proofs.Common.{◌≡◌, ◌∙◌, sym, true, refl}
use Rattle.dsa_base.proofs.NumberLemmas.{numbers_below-hit}
use Rattle.dsa_book.specs.Work.{qualifies}
use Rattle.dsa_explain_lines.proofs.Joining.{none-next}

pub returns-then-may_take : goal.returns-then-may_take
returns-then-may_take g c =
    let w = c.args.device.now.state.work in
    let here : qualifies w c.args.engine c.loop-queue.queue ≡ true = sym c.may_take.ensures ∙ c.if-may_take.true in
    rw (numbers_below-hit (qualifies w c.args.engine) c.args.queues c.loop-queue.queue c.loop-queue-test.true here) refl

pub loop-queue-preserved : goal.loop-queue-preserved
loop-queue-preserved g c =
    let w = c.args.device.now.state.work in
    none-next (qualifies w c.args.engine) c.loop-queue.queue c.loop-queue.invariant
    (sym c.may_take.ensures ∙ c.if-may_take.false)
