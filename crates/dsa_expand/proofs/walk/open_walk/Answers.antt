use Rattle.dsa_expand.proofs.walk.open_walk.Goals as goal
use Rattle.std.proofs.Common.{map, ap}
use Rattle.dsa_expand.specs.Members.{given_as, pairs_of_step}
use Rattle.dsa_expand.proofs.Walked.{walked_first}

pub returns-clause-first : goal.returns-clause-first
returns-clause-first c =
    walked_first c.args.caps c.args.capacity _ _ _ _ c.in_ok-run.ensures.first
    (ap (map given_as) c.new.ensures.items) (ap (map pairs_of_step) c.new-2.ensures.items)
