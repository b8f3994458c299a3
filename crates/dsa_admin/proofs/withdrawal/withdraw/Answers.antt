use Rattle.dsa_admin.proofs.withdrawal.withdraw.Goals as goal
use Rattle.dsa_admin.proofs.withdrawal.withdraw.Goals.{in-Device, in_default}
use Rattle.std.proofs.Common.{◌≡◌, ◌+◌, ◌<◌, List, Option, arith, length, refl, set, sym, ap, ◌∙◌}
use Rattle.std.proofs.lemmas.List.{append-nil}
use Rattle.dsa_regs.specs.{declared.Scope.{Scope}, Command.{scope_of}, Caps.{list_use}}
use Rattle.dsa_store.specs.Content.{HeldEntry, chain}
use Rattle.dsa_book.specs.declared.note.BatchNote.{BatchNote}
use Rattle.dsa_admin.specs.Admin.{notes_left}
use Rattle.dsa_admin.proofs.{Notes.{swept_notes}, Withdrawals.{spares-none}}
use Rattle.dsa_admin.proofs.{Notes.{notes-first, notes-turn, notes-all}, Withdrawals.{swept-next, swept-chain}}

pub loop-list-init : goal.loop-list-init
loop-list-init g c = record {
  setup = refl;
  swept = record { left = refl; rows = rw (append-nil c.args.book.now.fates) refl; room = c.requires.room };
  notes = notes-first c.args.queues.now.setup (scope_of c.args.command.now)
      (g.S.EntryStore.content c.args.store.now) c.args.engines.now.notes;
  in_step = c.requires.in_step;
  counted = c.requires.counted;
}

pub loop-list-preserved : goal.loop-list-preserved
loop-list-preserved g c =
    let h : c.loop-list.list < length (g.S.EntryStore.content c.args.store.now) =
    omega (arith, c.lists-list-end.ensures) in
    let lists = c.requires.in_step.store.lists in
    let so_far = c.loop-list.invariant in
    let turn : (after : List (Option BatchNote)) → after ≡ notes_left c.args.queues.now.setup
    (scope_of c.args.command.now) (list_use c.args.queues.now.setup.caps c.loop-list.list)
    (chain (g.S.EntryStore.content c.loop-list.store) c.loop-list.list) c.loop-list.engines.notes
    → after ≡ swept_notes c.args.queues.now.setup (scope_of c.args.command.now)
    (g.S.EntryStore.content c.args.store.now) c.args.engines.now.notes (c.loop-list.list + 1) = λ after.
    notes-turn c.args.queues.now.setup (scope_of c.args.command.now)
    (g.S.EntryStore.content c.args.store.now) c.args.engines.now.notes c.loop-list.list
    c.requires.in_step.notes (omega (arith, h, lists)) (swept-chain h so_far.swept) so_far.notes in
    elim c.match-scope.branch [
      | in-Device w ↦
          let all = sym c.scope.ensures ∙ w.in-Device.is in
          let left = w.give_back.ensures.left
          ∙ ap (λ (l : List HeldEntry). set (g.S.EntryStore.content c.loop-list.store) c.loop-list.list l)
          (sym (spares-none c.args.command.now all
          (chain (g.S.EntryStore.content c.loop-list.store) c.loop-list.list))) in
          let notes = rw so_far.setup at w.give_back.ensures.notes in
          rw (w.queues-is, w.engines-is, w.store-is, w.book-is) (record {
            setup = w.give_back.ensures.setup ∙ so_far.setup;
            swept = swept-next h so_far.swept left w.give_back.ensures.rows;
            notes = turn _ (notes ∙ ap (λ (s : Scope). notes_left c.args.queues.now.setup s
                (list_use c.args.queues.now.setup.caps c.loop-list.list)
                (chain (g.S.EntryStore.content c.loop-list.store) c.loop-list.list) c.loop-list.engines.notes)
                (sym all));
            in_step = rw (w.give_back.ensures.setup, so_far.setup) at w.give_back.ensures.in_step;
            counted = w.give_back.ensures.counted;
          })
      | in_default w ↦
          rw (w.queues-is, w.engines-is, w.store-is, w.book-is) (record {
            setup = w.withdraw_from.ensures.setup ∙ so_far.setup;
            swept = swept-next h so_far.swept w.withdraw_from.ensures.left w.withdraw_from.ensures.rows;
            notes = turn _ (rw so_far.setup at w.withdraw_from.ensures.notes);
            in_step = rw (w.withdraw_from.ensures.setup, so_far.setup) at w.withdraw_from.ensures.in_step;
            counted = w.withdraw_from.ensures.counted;
          })
    ]

pub returns-clause-notes : goal.returns-clause-notes
returns-clause-notes g c =
    let lists = c.requires.in_step.store.lists in
    notes-all c.args.queues.now.setup (scope_of c.args.command.now)
    (g.S.EntryStore.content c.args.store.now) c.args.engines.now.notes c.loop-list.list
    c.requires.in_step.notes (omega (arith, lists, c.lists-list-end.ensures)) c.loop-list.invariant.notes
