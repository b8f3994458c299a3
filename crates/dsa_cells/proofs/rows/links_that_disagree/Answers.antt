use Rattle.dsa_cells.proofs.rows.links_that_disagree.Goals as goal
use Rattle.std.proofs.Common.{◌≡◌, ℕ, None, Some, Option, arith}

pub returns-clause-previous : goal.returns-clause-previous
returns-clause-previous c h = let e : ◌≡◌ {A = Option ℕ} None (Some 2) = h.links.2.0 in absurd (cc)

pub returns-clause-order : goal.returns-clause-order
returns-clause-order c h = let e : ◌≡◌ {A = Option ℕ} (Some 2) (Some 0) = h.head in absurd (grind (arith, e))

pub returns-clause-short : goal.returns-clause-short
returns-clause-short c h = absurd (omega (arith, h.count))
