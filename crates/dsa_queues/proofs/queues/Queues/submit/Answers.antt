use Rattle.dsa_queues.proofs.queues.Queues.submit.Goals as goal
use Rattle.std.proofs.{Common.{refl, arith}, lemmas.Bool.{ltb-true}}
use Rattle.dsa_store.proofs.Sums.{unused-is_free}
use Rattle.dsa_queues.proofs.Counts.{counted-setup, counted-pushed}

-- the cell that the store gave was not in use, and is one that the device counts
pub returns-clause-free : goal.returns-clause-free
returns-clause-free g c = unused-is_free _ _ c.in-Some-push_back.cell
    (rw c.requires.store.cells at c.in-Some-push_back.ensures.below) c.in-Some-push_back.ensures.unused

-- and one more entry names the queue
pub entered-requires-clause-room : goal.entered-requires-clause-room
entered-requires-clause-room g c =
    let there = c.why_submit.ensures.known c.in_default.is in
    let pushed = counted-pushed c.args.self.now _ _ c.args.queue _ _ c.in-Some-push_back.ensures.some
    (omega (arith, ltb-true _ _ there, c.requires.store.lists)) there c.requires.counted in
    rw c.give_name.ensures.after (omega (
      arith,
      pushed.0,
      (g.met.S.EntryStore.sound c.push_back.new.self).room,
      c.push_back.ensures.cells,
      c.requires.store.cells,
    ))

pub returns-clause-counted : goal.returns-clause-counted
returns-clause-counted g c =
    let there = c.why_submit.ensures.known c.in_default.is in
    let pushed = counted-pushed c.args.self.now _ _ c.args.queue _ _ c.in-Some-push_back.ensures.some
    (omega (arith, ltb-true _ _ there, c.requires.store.lists)) there c.requires.counted in
    rw (c.entered.ensures, c.give_name.ensures.after)
    (counted-setup _ _ _ refl refl pushed.1)
