use Rattle.dsa_explore.proofs.tries.add_queue.Goals as goal
use Rattle.std.proofs.Common.{refl, inl, sym, ◌∙◌}
use Rattle.dsa_base.proofs.Lists.{In-left, In-right}

pub returns-in_default-clause-adds : goal.returns-in_default-clause-adds
returns-in_default-clause-adds c = λ may.
    let none = rw c.in_default.is at c.offered.ensures in
    let bad = sym none ∙ may in
    absurd cc

pub returns-clause-kept : goal.returns-clause-kept
returns-clause-kept c = λ t i. rw c.in_ok-push.ensures.items (In-left t c.args.tries.now.items _ i)

pub returns-clause-adds : goal.returns-clause-adds
returns-clause-adds c = λ may. rw c.in_ok-push.ensures.items (In-right _ c.args.tries.now.items _ (inl refl))
