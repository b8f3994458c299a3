use Rattle.dsa_statement_rows.proofs.searches.nodes_and_histories.Goals as goal
use Rattle.std.proofs.Common.{List, ap, map}
use Rattle.dsa_explore.specs.declared.stored.Node.{Node}

pub returns-clause-levels : goal.returns-clause-levels
returns-clause-levels c search tried one =
    ap (λ (nodes : List Node). map (λ (node : Node). node.level) nodes) one
