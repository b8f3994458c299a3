use Rattle.dsa_scenario.proofs.members.leaf_at.Goals as goal
use Rattle.std.proofs.Common.{◌≡◌, ◌+◌, ◌-◌, ◌<◌, ◌≤◌, arith, drop, length, subst, sym}
use Rattle.dsa_scenario.proofs.Tokens.{HasNone, last_of, none_before}

pub returns-then-eq : goal.returns-then-eq
returns-then-eq c =
    let n = c.loop-left.left in
    let some : 0 < n = c.loop-left-test.true in
    let most : n ≤ length c.args.members.now = c.loop-left.invariant.0 in
    let next : n - 1 + 1 ≡ n = omega (arith, some) in
    last_of c.args.key.now c.args.members.now (n - 1) _ (omega (arith, some, most)) (sym c.if-eq.ensures)
    (subst (λ i. HasNone c.args.key.now (drop i c.args.members.now)) (sym next) c.loop-left.invariant.1)

pub loop-left-preserved : goal.loop-left-preserved
loop-left-preserved c =
    let n = c.loop-left.left in
    let some : 0 < n = c.loop-left-test.true in
    let most : n ≤ length c.args.members.now = c.loop-left.invariant.0 in
    let next : n - 1 + 1 ≡ n = omega (arith, some) in (
      omega (arith, most),
      none_before c.args.key.now c.args.members.now (n - 1) _ (omega (arith, some, most)) (sym c.if-eq.ensures)
          (subst (λ i. HasNone c.args.key.now (drop i c.args.members.now)) (sym next) c.loop-left.invariant.1),
    )
