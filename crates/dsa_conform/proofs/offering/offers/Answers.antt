use Rattle.dsa_conform.proofs.offering.offers.Goals as goal
use Rattle.std.proofs.Common.{◌∙◌, ◌++◌, ◌∷◌, [], sym, ap, filter_map}
use Rattle.dsa_conform.specs.Allowed.{offer}
use Rattle.dsa_conform.proofs.Choices.{given-more}

pub loop-queue-preserved : goal.loop-queue-preserved
loop-queue-preserved g c =
    let f = offer c.args.device.now.state.work c.args.engine in
    c.in_ok-add_offer.ensures ∙ ap (λ found. found ++ filter_map f (c.loop-queue.queue ∷ [])) c.loop-queue.invariant
    ∙ sym (given-more f c.loop-queue.queue)
