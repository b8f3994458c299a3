use Rattle.dsa_admin.proofs.ends.count_in.Goals as goal
use Rattle.std.proofs.Common.{arith, ap, length, length-append}
use Rattle.std.proofs.lemmas.List.Sums.{count_by-le-length}
use Rattle.dsa_store.{specs.Content.{HeldEntry}, proofs.Lists.{length-le-held}}
use Rattle.dsa_admin.specs.Admin.{is_waited_for}

pub overflow_add-count : goal.overflow_add-count
overflow_add-count g c =
    omega (
      arith,
      c.loop-entry.invariant.count,
      count_by-le-length (λ (pair : HeldEntry). is_waited_for c.args.active.now pair.1) c.loop-entry.yielded,
      ap length c.loop-entry.invariant.parts,
      ap length c.in-Some.ensures.steps,
      length-append c.loop-entry.yielded c.loop-entry.entry-iterator,
      length-le-held (g.S.EntryStore.content c.args.store.now) c.args.list.0,
      c.requires.few,
    )
