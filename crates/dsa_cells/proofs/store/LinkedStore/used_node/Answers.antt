use Rattle.dsa_cells.proofs.store.LinkedStore.used_node.Goals as goal
use Rattle.std.proofs.{Common.{◌<◌, length, ap, arith}, lemmas.List.{get_or_read}}
use Rattle.dsa_cells.{specs.{declared.links.Node.{Node}, Array.{no_node}}, proofs.Contents.{used, unused}}

pub returns-then-at-len : goal.returns-then-at-len
returns-then-at-len g c = unused c.args.cell c.args.self.now.whole
    (λ lt. absurd (omega (arith, lt, c.args.self.now.nodes.ok.0)))

pub returns-then-node-len : goal.returns-then-node-len
returns-then-node-len g c =
    let lt : c.args.cell.0 < length c.args.self.now.nodes.items = omega (arith, c.args.self.now.nodes.ok.0) in
    used c.args.cell _ c.args.self.now.whole lt (get_or_read _ _ _ lt c.index-node.ensures no_node)
    (omega (arith, c.args.self.now.headers.ok.0))

pub returns-else-node-len : goal.returns-else-node-len
returns-else-node-len g c =
    unused c.args.cell c.args.self.now.whole (λ lt.
    let e = get_or_read _ _ _ lt c.index-node.ensures no_node in
    omega (arith, ap (λ (t : Node). t.owner) e, c.args.self.now.headers.ok.0))
