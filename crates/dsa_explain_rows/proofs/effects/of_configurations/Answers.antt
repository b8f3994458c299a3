use Rattle.dsa_explain_rows.proofs.effects.of_configurations.Goals as goal
use Rattle.std.proofs.Common.{arith, refl, true}
use Rattle.dsa_book.specs.declared.{answer.Cause.TheVariants.{WrongKind}, event.Portal.TheVariants.{Limited}}
use Rattle.dsa_regs.specs.Worked.{dedicated_queue, second_group}

pub returns-clause-size : goal.returns-clause-size
returns-clause-size c =
    record { queue = 1; config = record dedicated_queue { size = 3 }; has = refl; off = refl; size = refl; after = refl }

pub returns-clause-same_size : goal.returns-clause-same_size
returns-clause-same_size c = record {
  queue = 1;
  config = record dedicated_queue { priority = 3 };
  has = refl;
  off = refl;
  size = refl;
  after = refl;
}

pub returns-clause-group : goal.returns-clause-group
returns-clause-group c = record { group = 1; config = second_group; has = refl; off = refl; after = refl }

pub returns-clause-noted : goal.returns-clause-noted
returns-clause-noted c = record {
  queue = 0;
  portal = Limited;
  cause = WrongKind;
  refused = (refl, refl);
  after = refl;
}

pub returns-clause-cleared : goal.returns-clause-cleared
returns-clause-cleared c = record {
  noted = record { queue = 0; cause = WrongKind; overflow = true };
  is_noted = refl;
  after = refl;
}

pub returns-clause-no_queues : goal.returns-clause-no_queues
returns-clause-no_queues c s' is = grind (arith, is.has)

pub returns-clause-no_groups : goal.returns-clause-no_groups
returns-clause-no_groups c s' is = grind (arith, is.has)
