use Rattle.dsa_explore.proofs.tries.add_move.Goals as goal
use Rattle.std.proofs.Common.{refl, inl}
use Rattle.dsa_base.proofs.Lists.{In-left, In-right}
use Rattle.dsa_explore.proofs.Listing.{not-offered, may-below}

pub returns-in_default-clause-lists : goal.returns-in_default-clause-lists
returns-in_default-clause-lists c =
    not-offered c.args.plan.now.script.now c.args.walked.now c.args.tries.now.items c.args.by c.offer.result
    c.in_default.is c.offer.ensures

pub returns-clause-kept : goal.returns-clause-kept
returns-clause-kept c = λ t i.
    c.in_ok-add_dispatches.ensures.kept t (rw c.in_ok-push.ensures.items (In-left t c.args.tries.now.items _ i))

pub returns-clause-lists : goal.returns-clause-lists
returns-clause-lists c = record {
  plain = λ o h. c.in_ok-add_dispatches.ensures.kept _
      (rw c.in_ok-push.ensures.items (In-right _ c.args.tries.now.items _ (inl refl)));
  queues = λ o engine q h is may. c.in_ok-add_dispatches.ensures.adds engine q is
      (may-below c.args.walked.now.machine.device.state.work engine q may) may;
}
