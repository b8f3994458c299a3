use Rattle.dsa_conform.proofs.walk.is_fork.Goals as goal
use Rattle.std.proofs.Common.{◌∙◌, sym, subst}
use Rattle.dsa_conform.specs.{Seen.{seen_as}, Ways.{IsOneWay}}
use Rattle.dsa_conform.proofs.Companions.{not_forked, empty_if}

pub returns : goal.returns
returns c none caps capacity done number h =
    let asks = c.event_for-asked.ensures h.records (rw c.as_slice.ensures.value h.table) in
    subst (λ q. IsOneWay c.args.way.now.device q (seen_as c.args.seen.now)) asks
    (not_forked c.args.way.now.device c.event_for-asked.result (seen_as c.args.seen.now) c.in_ok-queues.queues.items
    (rw c.as_slice-2.ensures.value at (sym c.is_empty.ensures ∙ empty_if c.is_empty.result none))
    c.in_ok-queues.ensures)
