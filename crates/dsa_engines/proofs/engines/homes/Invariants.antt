use Rattle.dsa_engines.proofs.engines.homes.Given as goal
use Rattle.std.proofs.Common.{◌≡◌, map}
use Rattle.dsa_base.specs.Numbers.{numbers_below}
use Rattle.dsa_book.specs.Work.{group_in}

abbrev pub invariant-loop-engine : goal.invariant-loop-engine
invariant-loop-engine l = l.homes.items ≡ map (group_in l.queues.setup.groups) (numbers_below l.engine)
