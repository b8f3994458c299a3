use Rattle.dsa_count.proofs.tallies.add_each_named.Goals as goal
use Rattle.dsa_count.proofs.Texts.{told-more}
use Rattle.dsa_count.specs.Tallies.{named_line}

pub loop-number-preserved : goal.loop-number-preserved
loop-number-preserved c = told-more (named_line c.args.party c.args.submissions.now) c.loop-number.number _ _ _
    c.loop-number.invariant c.in_ok-add_named.ensures
