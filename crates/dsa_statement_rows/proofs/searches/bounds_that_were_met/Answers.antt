use Rattle.dsa_statement_rows.proofs.searches.bounds_that_were_met.Goals as goal
use Rattle.std.proofs.Common.{◌≡◌, ◌+◌, ◌≤◌, List, inl, refl, ap, map, arith}
use Rattle.dsa_explore.specs.declared.stored.Node.{Node}
use Rattle.dsa_explore.specs.Stored.{last_level, node_levels}

pub returns-clause-steps : goal.returns-clause-steps
returns-clause-steps c first search =
    let many : 1_048_576 ≤ 1_048_576 + last_level (node_levels search) = omega arith in many

pub returns-clause-room : goal.returns-clause-room
returns-clause-room c first search none met =
    let many : 1_048_576 ≤ 1_048_575 + last_level (node_levels search) = met in
    let level : last_level (node_levels search) ≡ 0 =
    ap (λ (nodes : List Node). last_level (map (λ (node : Node). node.level) nodes)) none in
    absurd (omega (arith, many, level))

pub returns-clause-moves : goal.returns-clause-moves
returns-clause-moves c bytes key = key.soon

pub returns-clause-no_begin : goal.returns-clause-no_begin
returns-clause-no_begin c memory explored needs = needs.begun.device (inl refl)
