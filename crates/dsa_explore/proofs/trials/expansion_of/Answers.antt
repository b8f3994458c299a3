use Rattle.dsa_explore.proofs.trials.expansion_of.Goals as goal
use Rattle.std.proofs.Common.{◌∙◌, List, length, subst, ap}
use Rattle.dsa_explore.specs.declared.stored.Try.{Try}
use Rattle.dsa_explore.specs.{Trials.{AreTrials}, Walked.{space_of, world_of}}
use Rattle.dsa_explore.proofs.{Growth.{In-get}, Lawful.{space-lawful}}
use Rattle.dsa_explore.proofs.Tried.{expansion-halted, expansion-of, steps-halt}

pub returns-in-Err-clause-expansion : goal.returns-in-Err-clause-expansion
returns-in-Err-clause-expansion c = λ first table x begun is at.
    let space = space_of c.args.plan.now.caps c.args.plan.now.script.now in
    let set_up = length c.args.plan.now.setup.now in
    expansion-halted space x set_up c.args.key.now.line.capacity c.halted_at.result c.in-Err.halt
    (ap (λ v. v.items) c.halted_at.ensures.trials ∙ c.new.ensures.items) c.halted_at.ensures.halted
    (steps-halt space x set_up c.args.key.now.line.capacity c.in-Err.halt
    ((rw c.in-Err.is at c.in_ok-walked.ensures.halted) first table x begun is at))

pub returns-clause-expansion : goal.returns-clause-expansion
returns-clause-expansion c = λ first table x begun is at.
    let caps = c.args.plan.now.caps in
    let script = c.args.plan.now.script.now in
    let space = space_of caps script in
    let set_up = length c.args.plan.now.setup.now in
    let there = (rw c.in-Ok.is at c.in_ok-walked.ensures.there) first table x begun is at in
    let covers = (rw c.deref.ensures at c.in_ok-tries.ensures) there.fine in
    expansion-of space x (space-lawful caps script) (is.table_is.worlds x (In-get table c.args.number x at)).fine set_up
    c.args.key.now.line.capacity (world_of c.in-Ok.walked.value) c.in_ok-tries.tries.items c.in_ok-expansion.expansion
    there covers
    (subst (λ (l : List Try). AreTrials space set_up c.args.key.now.line.capacity x l c.in_ok-expansion.expansion)
    c.as_slice.ensures.value (c.in_ok-expansion.ensures.trials first table x begun is at there
    (rw c.in-Ok.is at c.in_ok-walked.ensures.labels)))
