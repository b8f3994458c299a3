use Rattle.dsa_admin.proofs.withdrawal.give_back.Goals as goal
use Rattle.std.proofs.Common.{◌++◌, ◌∷◌, [], List, arith, ◌∙◌, sym, ap, length, length-append, append_assoc}
use Rattle.dsa_store.specs.Content.{HeldEntry}
use Rattle.dsa_store.proofs.Lists.{length-le-held}
use Rattle.dsa_book.specs.{State.{Setup}, Records.{Records}, declared.fate.FateRow.{FateRow}}
use Rattle.dsa_engines.specs.Engines.{engines_after_removal}
use Rattle.dsa_queues.proofs.Counts.{first-leaves}
use Rattle.dsa_admin.{specs.Admin.{row_of_abort, rows_of_abort}, proofs.Counting.{first-releases, first-removed}}
use Rattle.dsa_admin.proofs.{Notes.{notes-taken}, Withdrawals.{rows-few, rows-pushed}}

pub add_row-requires : goal.add_row-requires
add_row-requires g c =
    omega (
      arith,
      c.requires.room,
      ap (λ (r : Records). length r.fates) c.loop-held.invariant.rows,
      ap (λ (r : Records). r.row_room) c.loop-held.invariant.rows,
      length-append c.args.book.now.fates (rows_of_abort c.args.command.now c.loop-held.yielded),
      rows-few c.args.command.now c.loop-held.yielded,
      ap length c.loop-held.invariant.parts,
      ap length c.in-Some.ensures.steps,
      length-append c.loop-held.yielded c.loop-held.held-iterator,
      length-le-held (g.S.EntryStore.content c.args.store.now) c.args.list.0,
    )

pub removed-requires-clause-held : goal.removed-requires-clause-held
removed-requires-clause-held g c =
    let parts = c.loop-held.invariant.parts
    ∙ ap (λ (l : List HeldEntry). c.loop-held.yielded ++ l) c.in-Some.ensures.steps in
    rw c.loop-held.invariant.setup (first-releases (g.S.EntryStore.content c.args.store.now) c.args.list.0
    c.loop-held.yielded c.next.new.self (c.in-Some.field-0-0, c.in-Some.held) c.requires.list
    (g.met.S.EntryStore.sound c.args.store.now).once parts (rw c.in-Some.ensures.steps at c.loop-held.invariant.in_step)
    c.list_use-from.result c.list_use-from.ensures.list c.list_use-from.ensures.number)

pub left-requires-clause-there : goal.left-requires-clause-there
left-requires-clause-there g c =
    (first-leaves c.loop-held.queues (g.S.EntryStore.content c.args.store.now) c.args.list.0
    (c.in-Some.field-0-0, c.in-Some.held) c.next.new.self c.requires.list
    (rw c.in-Some.ensures.steps at c.loop-held.invariant.counted)).there

pub left-requires-clause-some : goal.left-requires-clause-some
left-requires-clause-some g c =
    (first-leaves c.loop-held.queues (g.S.EntryStore.content c.args.store.now) c.args.list.0
    (c.in-Some.field-0-0, c.in-Some.held) c.next.new.self c.requires.list
    (rw c.in-Some.ensures.steps at c.loop-held.invariant.counted)).some

pub loop-held-preserved : goal.loop-held-preserved
loop-held-preserved g c =
    let s : HeldEntry = (c.in-Some.field-0-0, c.in-Some.held) in
    let first = c.args.book.now.fates in
    let parts = c.loop-held.invariant.parts
    ∙ ap (λ (l : List HeldEntry). c.loop-held.yielded ++ l) c.in-Some.ensures.steps in
    let removed = c.removed.ensures
    ∙ ap (λ (x : Setup). engines_after_removal x c.list_use-from.result c.in-Some.held c.loop-held.engines)
    c.loop-held.invariant.setup in
    record {
      parts = parts ∙ sym (append_assoc c.loop-held.yielded (s ∷ []) c.next.new.self);
      setup = rw c.left.ensures c.loop-held.invariant.setup;
      rows = rw (
        c.add_row.ensures,
        c.row_of.ensures,
        c.loop-held.invariant.rows,
        rows-pushed c.args.command.now c.requires.all c.loop-held.yielded s,
      )
          (ap (λ (l : List FateRow). record c.args.book.now { fates = l }) (append_assoc first
          (rows_of_abort c.args.command.now c.loop-held.yielded)
          (row_of_abort c.args.command.now c.in-Some.held ∷ [])));
      notes = notes-taken c.args.queues.now.setup c.list_use-from.result c.args.engines.now.notes
          c.loop-held.yielded s c.loop-held.engines c.loop-held.invariant.notes removed;
      in_step = rw removed (first-removed (g.S.EntryStore.content c.args.store.now) c.args.list.0
          c.loop-held.yielded c.next.new.self s c.requires.list (g.met.S.EntryStore.sound c.args.store.now).once parts
          (rw c.in-Some.ensures.steps at c.loop-held.invariant.in_step) c.list_use-from.result
          c.list_use-from.ensures.list c.list_use-from.ensures.number);
      counted = rw c.left.ensures (first-leaves c.loop-held.queues (g.S.EntryStore.content c.args.store.now)
          c.args.list.0 s c.next.new.self c.requires.list
          (rw c.in-Some.ensures.steps at c.loop-held.invariant.counted)).counted;
    }
