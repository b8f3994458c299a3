use Rattle.dsa_explore.proofs.tries.add_ends.Goals as goal
use Rattle.std.proofs.Common.{arith, subst, sym, List}
use Rattle.std.proofs.lemmas.List.{take_all}
use Rattle.dsa_base.specs.Lists.{In}
use Rattle.dsa_store.specs.Content.{HeldEntry}
use Rattle.dsa_explore.proofs.Listing.{ends-more}

pub loop-pair-init : goal.loop-pair-init
loop-pair-init c = (λ t i. i, λ pair outcome i. absurd i)

pub loop-pair-preserved : goal.loop-pair-preserved
loop-pair-preserved c = (
  λ t i. c.in_ok-add_ends_for.ensures.kept t (c.loop-pair.invariant.0 t i),
  ends-more c.args.plan.now.script.now c.args.walked.now c.loop-pair.tries.items c.add_ends_for.new.tries.items
      c.args.engine c.args.running.now c.loop-pair.pair-index _ c.loop-pair-test.true
      c.in_ok-add_ends_for.ensures.kept c.loop-pair.invariant.1 c.in_ok-add_ends_for.ensures.lists,
)

pub returns-clause-kept : goal.returns-clause-kept
returns-clause-kept c = c.loop-pair.invariant.0

pub returns-clause-lists : goal.returns-clause-lists
returns-clause-lists c = λ pair outcome i.
    c.loop-pair.invariant.1 pair outcome
    (subst (λ (l : List HeldEntry). In pair l)
    (sym (take_all c.loop-pair.pair-index c.args.running.now (omega (arith, c.loop-pair-test.false)))) i)
