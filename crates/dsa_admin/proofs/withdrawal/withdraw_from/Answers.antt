use Rattle.dsa_admin.proofs.withdrawal.withdraw_from.Goals as goal
use Rattle.std.proofs.Common.{arith, ◌∙◌, sym, ap}
use Rattle.dsa_regs.specs.{declared.Scope.{Scope}, Command.{scope_of}}
use Rattle.dsa_book.specs.{State.{Setup}, Commands.{is_in_scope}}
use Rattle.dsa_store.{specs.Content.{chain, after_unlink}, proofs.Turns.{some-drop}}
use Rattle.dsa_queues.proofs.Counts.{Leaves, unlinked-leaves}
use Rattle.dsa_engines.specs.Engines.{engines_after_removal}
use Rattle.dsa_engines.proofs.Leaving.{may-release, in_step-removed}
use Rattle.dsa_admin.proofs.Notes.{notes-stay, notes-leave}
use Rattle.dsa_admin.proofs.Withdrawals.{looks-at, withdrawn-room, withdrawn-stays, withdrawn-leaves, withdrawn-found}
use Rattle.dsa_admin.proofs.Withdrawals.{LooksAt, withdrawn-list}
use Rattle.dsa_admin.proofs.withdrawal.withdraw_from.{Given.{Over}, Goals.{In-Some-get}}

-- the entry that the walk stands at
looks : (g : Over) (c : In-Some-get g) → LooksAt c.args.command.now (g.S.EntryStore.content c.args.store.now)
    c.args.list.0 c.loop-place._place (g.S.EntryStore.content c.loop-place.store) c.in-Some.cell c.in-Some-get.entry
looks g c =
    looks-at c.loop-place.invariant.withdrawn (g.met.S.EntryStore.sound c.loop-place.store).once c.requires.list
    c.len-place-end.ensures c.loop-place-test.true c.loop-place.invariant.here c.in-Some.is c.get.ensures
    c.in-Some-get.is

-- and what its queue is left with where it goes
leaves : (g : Over) (c : In-Some-get g) → Leaves c.loop-place.queues
    (after_unlink (g.S.EntryStore.content c.loop-place.store) c.in-Some.cell) c.in-Some-get.entry.queue
leaves g c =
    unlinked-leaves c.loop-place.queues (g.S.EntryStore.content c.loop-place.store) c.args.list.0 _ c.in-Some.cell
    c.in-Some-get.entry ((g.met.S.EntryStore.sound c.loop-place.store).once c.in-Some.cell)
    (withdrawn-list c.loop-place.invariant.withdrawn c.requires.list) (looks g c).now_stands
    c.loop-place.invariant.counted

pub unreachable-requires : goal.unreachable-requires
unreachable-requires g c =
    some-drop (chain (g.S.EntryStore.content c.args.store.now) c.args.list.0) c.loop-place._place
    (omega (arith, c.len-place-end.ensures)) (sym c.loop-place.invariant.here ∙ c.in_default.is)

pub unreachable-requires-in_default-get : goal.unreachable-requires-in_default-get
unreachable-requires-in_default-get g c =
    withdrawn-found c.loop-place.invariant.withdrawn (g.met.S.EntryStore.sound c.loop-place.store).once c.requires.list
    c.len-place-end.ensures c.loop-place-test.true c.loop-place.invariant.here c.in-Some.is c.get.ensures
    c.in_default-get.is

pub loop-place-preserved-then-not-is_in_scope : goal.loop-place-preserved-then-not-is_in_scope
loop-place-preserved-then-not-is_in_scope g c =
    let t = looks g (goal.at.loop-place-preserved-then-not-is_in_scope g c).In-Some-get in
    let scope = ap (λ (s : Scope). is_in_scope s c.in-Some-get.entry) (sym c.scope-scope.ensures)
    ∙ sym c.is_in_scope.ensures ∙ c.if-not-is_in_scope.true in
    record {
      here = c.next-at.ensures ∙ t.next;
      setup = c.loop-place.invariant.setup;
      withdrawn = withdrawn-stays t c.loop-place.invariant.withdrawn scope;
      notes = notes-stay c.args.queues.now.setup (scope_of c.args.command.now) c.list_use-from.result _ t.stands scope
          c.loop-place.invariant.notes;
      in_step = c.loop-place.invariant.in_step;
      counted = c.loop-place.invariant.counted;
    }

pub add_row-requires : goal.add_row-requires
add_row-requires g c = withdrawn-room c.in-Some.cell c.loop-place.invariant.withdrawn c.get.ensures c.in-Some-get.is

pub removed-requires-clause-notes : goal.removed-requires-clause-notes
removed-requires-clause-notes g c = rw c.loop-place.invariant.setup c.loop-place.invariant.in_step.notes

pub removed-requires-clause-list : goal.removed-requires-clause-list
removed-requires-clause-list g c = rw c.loop-place.invariant.setup c.list_use-from.ensures.list

pub removed-requires-clause-held : goal.removed-requires-clause-held
removed-requires-clause-held g c =
    let t = looks g (goal.at.removed-requires-clause-held g c).In-Some-get in
    rw c.loop-place.invariant.setup (may-release c.loop-place.invariant.in_step ((g.met.S.EntryStore.sound c.loop-place.store).once c.in-Some.cell) t.now_stands
    c.list_use-from.result c.list_use-from.ensures.list c.list_use-from.ensures.number)

pub left-requires-clause-there : goal.left-requires-clause-there
left-requires-clause-there g c = (leaves g (goal.at.left-requires-clause-there g c).In-Some-get).there

pub left-requires-clause-some : goal.left-requires-clause-some
left-requires-clause-some g c = (leaves g (goal.at.left-requires-clause-some g c).In-Some-get).some

pub loop-place-preserved : goal.loop-place-preserved
loop-place-preserved g c =
    let at = (goal.at.loop-place-preserved g c).In-Some-get in let t = looks g at in
    let scope = ap (λ (s : Scope). is_in_scope s c.in-Some-get.entry) (sym c.scope-scope.ensures)
    ∙ sym c.is_in_scope.ensures ∙ c.if-not-is_in_scope.false in
    let removed = c.removed.ensures
    ∙ ap (λ (s : Setup). engines_after_removal s c.list_use-from.result c.in-Some-get.entry c.loop-place.engines)
    c.loop-place.invariant.setup in
    record {
      here = c.next-at.ensures ∙ t.next;
      setup = rw c.left.ensures c.loop-place.invariant.setup;
      withdrawn = withdrawn-leaves t c.loop-place.invariant.withdrawn scope c.unlink.ensures.after c.row_of.ensures c.add_row.ensures;
      notes = notes-leave c.args.queues.now.setup (scope_of c.args.command.now) c.list_use-from.result _ t.stands
          c.loop-place.engines scope c.loop-place.invariant.notes removed;
      in_step = rw (c.unlink.ensures.after, removed) (in_step-removed c.loop-place.invariant.in_step
          ((g.met.S.EntryStore.sound c.loop-place.store).once c.in-Some.cell) t.now_stands c.list_use-from.result c.unlink.ensures.cells
          c.list_use-from.ensures.list c.list_use-from.ensures.number);
      counted = rw (c.left.ensures, c.unlink.ensures.after) (leaves g at).counted;
    }
