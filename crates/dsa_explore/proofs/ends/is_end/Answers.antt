use Rattle.dsa_explore.proofs.ends.is_end.Goals as goal
use Rattle.dsa_explore.specs.Walked.{world_of}
use Rattle.dsa_explore.proofs.Endings.{end-decided}

pub returns-clause-decided : goal.returns-clause-decided
returns-clause-decided c =
    end-decided c.args.plan.now.caps c.args.plan.now.script.now c.args.plan.now.setup.now c.args.search.now c.args.number
    (world_of c.in-Ok.walked.value) c.in_ok-tries.tries.items c.in_ok-none.none
    (rw c.in-Ok.is at c.in_ok-walked.ensures.there) (rw c.deref.ensures at c.in_ok-tries.ensures) _ _
    (rw c.in-Ok.is at c.in_ok-walked.ensures.labels)
    (rw (← c.as_slice.ensures.value) c.in_ok-none.ensures.decided)

pub returns-in_default-clause-none : goal.returns-in_default-clause-none
returns-in_default-clause-none c = λ first table x begun is at.
    ((rw c.in_default.is at c.in_ok-walked.ensures.halted) first table x begun is at).1
