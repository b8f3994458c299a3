use Rattle.dsa_explore.proofs.tries.add_engines.Goals as goal
use Rattle.std.proofs.Common.{ℕ, arith, subst, sym, List}
use Rattle.std.proofs.lemmas.List.{take_all}
use Rattle.dsa_base.specs.Lists.{In}
use Rattle.dsa_explore.proofs.Listing.{engines-more}

pub loop-engine-init : goal.loop-engine-init
loop-engine-init c = (λ t i. i, λ e i. absurd i)

pub loop-engine-preserved : goal.loop-engine-preserved
loop-engine-preserved c = (
  λ t i. c.in_ok-add_engine.ensures.kept t (c.loop-engine.invariant.0 t i),
  engines-more c.args.plan.now.script.now c.args.walked.now c.loop-engine.tries.items c.add_engine.new.tries.items
      c.args.engines.now c.loop-engine.engine-index _ c.loop-engine-test.true
      c.in_ok-add_engine.ensures.kept c.loop-engine.invariant.1 c.in_ok-add_engine.ensures.lists,
)

pub returns-clause-kept : goal.returns-clause-kept
returns-clause-kept c = c.loop-engine.invariant.0

pub returns-clause-lists : goal.returns-clause-lists
returns-clause-lists c = λ e i.
    c.loop-engine.invariant.1 e
    (subst (λ (l : List ℕ). In e l)
    (sym (take_all c.loop-engine.engine-index c.args.engines.now
    (omega (arith, c.loop-engine-test.false)))) i)
