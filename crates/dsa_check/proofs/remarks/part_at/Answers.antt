use Rattle.dsa_check.proofs.remarks.part_at.Goals as goal
use Rattle.std.specs.Prelude.{codes}
use Rattle.serde_json.specs.View.{view}
use Rattle.dsa_check.proofs.Shallow.{found_shallow}

pub returns-in-BadCaps-clause-shallow : goal.returns-in-BadCaps-clause-shallow
returns-in-BadCaps-clause-shallow c =
    found_shallow (codes "caps") (view c.args.document.now) c.get-in-BadCaps.result c.get-in-BadCaps.ensures c.requires
