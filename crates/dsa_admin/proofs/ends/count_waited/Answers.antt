use Rattle.dsa_admin.proofs.ends.count_waited.Goals as goal
use Rattle.std.proofs.Common.{◌+◌, arith}
use Rattle.std.proofs.lemmas.List.Sums.{count_by-le-length}
use Rattle.dsa_store.specs.Content.{HeldEntry, all_held}
use Rattle.dsa_store.proofs.Sums.{held-counted}
use Rattle.dsa_admin.specs.Admin.{is_waited_for}
use Rattle.dsa_admin.proofs.Counting.{first-few, first-more}

pub returns-then-free-cells : goal.returns-then-free-cells
returns-then-free-cells g c =
    omega (
      arith,
      count_by-le-length (λ (pair : HeldEntry). is_waited_for c.args.active.now pair.1)
          (all_held (g.S.EntryStore.content c.args.store.now)),
      held-counted (g.S.EntryStore.content c.args.store.now),
      c.free.ensures,
      c.cells.ensures,
      c.if-free-cells.true,
    )

pub overflow_add-count : goal.overflow_add-count
overflow_add-count g c =
    omega (
      arith,
      c.loop-list.invariant,
      c.count_in-count.ensures,
      first-more (λ (pair : HeldEntry). is_waited_for c.args.active.now pair.1) c.loop-list.list
          (g.S.EntryStore.content c.args.store.now) (omega (arith, c.lists-list-end.ensures, c.loop-list-test.true)),
      first-few (λ (pair : HeldEntry). is_waited_for c.args.active.now pair.1) (c.loop-list.list + 1)
          (g.S.EntryStore.content c.args.store.now),
      held-counted (g.S.EntryStore.content c.args.store.now),
      c.free.ensures,
      c.cells.ensures,
    )
