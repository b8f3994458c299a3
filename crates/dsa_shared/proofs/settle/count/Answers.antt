use Rattle.dsa_shared.proofs.settle.count.Goals as goal
use Rattle.std.proofs.Common.{◌≡◌, ℕ, ◌+◌, ◌<◌, List, cond, length, take, get_or, sum_by, sym, ap, ◌∙◌, arith}
use Rattle.std.proofs.lemmas.{List.Sums.{sum_by_more}, Grind.{common_steps}}
use Rattle.dsa_book.specs.declared.event.Step.{Step}
use Rattle.dsa_book.specs.Totals.{is_accepted, is_fetched, is_retried, is_done, lost_by}

one_more : (f : Step → ℕ) (h : List Step) (i : ℕ) (d : Step) (old new : ℕ) → i < length h → old ≡ sum_by f (take i h)
    → new ≡ old + f (get_or h i d) → new ≡ sum_by f (take (i + 1) h)
one_more f h i d old new lt before step =
    step ∙ ap (λ n. n + f (get_or h i d)) before ∙ sym (sum_by_more f h i d lt)

pub loop-step-preserved : goal.loop-step-preserved
loop-step-preserved c =
    let h = c.args.history.now in
    let i = c.loop-step.step-index in
    let lt = c.loop-step-test.true in
    let before = c.loop-step.invariant in
    let after = c.add.ensures in
    let accepted = one_more (λ x. cond (is_accepted x.reply) 1 0) h i _ _ _ lt before.accepted.0 after.accepted in
    let fetched = one_more (λ x. cond (is_fetched x.reply) 1 0) h i _ _ _ lt before.fetched.0 after.fetched in
    let retried = one_more (λ x. cond (is_retried x.reply) 1 0) h i _ _ _ lt before.retried.0 after.retried in
    let done = one_more (λ x. cond (is_done x.reply) 1 0) h i _ _ _ lt before.done.0 after.done in
    let lost = one_more (λ x. lost_by x.reply) h i _ _ _ lt before.lost.0 after.lost in
    record {
      accepted = (accepted, omega (arith, before.accepted.1, after.at_most.0));
      fetched = (fetched, omega (arith, before.fetched.1, after.at_most.1));
      retried = (retried, omega (arith, before.retried.1, after.at_most.2));
      done = (done, omega (arith, before.done.1, after.at_most.3));
      lost = (lost, omega (arith, before.lost.1, after.at_most.4));
      rest = (after.rest.0 ∙ before.rest.0, after.rest.1 ∙ before.rest.1);
    }

pub returns : goal.returns
returns = grind (arith, common_steps)
