use Rattle.dsa_explore.proofs.tries.add_engine.Goals as goal
use Rattle.std.proofs.Common.{◌∙◌, subst, sym, List}
use Rattle.dsa_base.specs.Lists.{In}
use Rattle.dsa_store.specs.Content.{HeldEntry}
use Rattle.dsa_explore.proofs.Listing.{lists-more}

pub returns-clause-kept : goal.returns-clause-kept
returns-clause-kept c = λ t i.
    c.in_ok-add_ends.ensures.kept t (c.in_ok-add_move-3.ensures.kept t (c.in_ok-add_move-2.ensures.kept t
    (c.in_ok-add_move.ensures.kept t i)))

pub returns-clause-lists : goal.returns-clause-lists
returns-clause-lists c =
    let script = c.args.plan.now.script.now in
    let walked = c.args.walked.now in
    record {
      dispatch = lists-more script walked c.add_move.new.tries.items c.add_ends.new.tries.items _
          (λ t i. c.in_ok-add_ends.ensures.kept t (c.in_ok-add_move-3.ensures.kept t
          (c.in_ok-add_move-2.ensures.kept t i))) c.in_ok-add_move.ensures.lists;
      fetch = lists-more script walked c.add_move-2.new.tries.items c.add_ends.new.tries.items _
          (λ t i. c.in_ok-add_ends.ensures.kept t (c.in_ok-add_move-3.ensures.kept t i))
          c.in_ok-add_move-2.ensures.lists;
      start = lists-more script walked c.add_move-3.new.tries.items c.add_ends.new.tries.items _
          c.in_ok-add_ends.ensures.kept c.in_ok-add_move-3.ensures.lists;
      ends = λ pair outcome i. c.in_ok-add_ends.ensures.lists pair outcome
          (subst (λ (l : List HeldEntry). In pair l) (sym (c.as_slice.ensures.value ∙ c.in_ok-running.ensures)) i);
    }
