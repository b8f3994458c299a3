use Rattle.dsa_cells.proofs.rows.cells_in_use.Goals as goal
use Rattle.std.proofs.Common.{ap, arith, lit≤, refl}
use Rattle.dsa_store.specs.Content.{place_count, use_count}

pub returns-clause-used : goal.returns-clause-used
unfolding use_count place_count
returns-clause-used c =
    record { inside = lit≤ tt; same = refl; listed = lit≤ tt; used = lit≤ tt; list = refl; entry = refl; next = refl }

pub returns-clause-last : goal.returns-clause-last
unfolding use_count place_count
returns-clause-last c =
    record { inside = lit≤ tt; same = refl; listed = lit≤ tt; used = lit≤ tt; list = refl; entry = refl; next = refl }

pub returns-clause-beyond : goal.returns-clause-beyond
returns-clause-beyond c is = omega (arith, is.inside)

pub returns-clause-other_node : goal.returns-clause-other_node
returns-clause-other_node c is = grind (arith, ap (λ node. node.next) is.same)

pub returns-clause-free : goal.returns-clause-free
returns-clause-free c is = omega (arith, is.listed)

pub returns-clause-unused : goal.returns-clause-unused
unfolding use_count place_count
returns-clause-unused c =
    record { none = refl; list = refl; entry = refl; next = refl; unlinked = refl; replaced = λ entry. refl }

pub returns-clause-not_unused : goal.returns-clause-not_unused
unfolding use_count place_count
returns-clause-not_unused c is = omega (arith, is.none)

pub returns-clause-inside : goal.returns-clause-inside
returns-clause-inside c cell there = absurd (omega (arith, there))

pub returns-clause-one_beyond : goal.returns-clause-one_beyond
returns-clause-one_beyond c are = omega (arith, are 3 (lit≤ tt))

pub returns-clause-no_free_list : goal.returns-clause-no_free_list
returns-clause-no_free_list c is = omega (arith, is.free)

pub returns-clause-cell_lost : goal.returns-clause-cell_lost
returns-clause-cell_lost c is = omega (arith, is.store.total)

pub returns-clause-other_owner : goal.returns-clause-other_owner
returns-clause-other_owner c is = omega (arith, is.store.placed 0 1)
