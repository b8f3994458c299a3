use Rattle.dsa_engines.proofs.engines.Engines.fetch.Goals as goal
use Rattle.std.proofs.Common.{◌∙◌, refl, sym, ap, arith}
use Rattle.dsa_store.proofs.Sums.{unused-is_free}
use Rattle.dsa_queues.{specs.Queues.{Kept}, proofs.Counts.{counted-pushed, counted-setup}}
use Rattle.dsa_engines.proofs.Batches.{batch-named, is-fetching, in_step-fetched, fetch-done, fetch-refused}
use Rattle.dsa_engines.{specs.Engines.{work}, proofs.Batches.{refused-enters}}

pub returns-in-Err-clause-step : goal.returns-in-Err-clause-step
returns-in-Err-clause-step g c fates = rw c.answer.ensures (fetch-refused (work c.args.queues.now.setup c.args.self.now
    (g.S.EntryStore.content c.args.store.now) fates) c.args.engine c.in-Err.reason c.in-Err.ensures.reason c.args.desc _)

pub returns-in-Err-clause-free : goal.returns-in-Err-clause-free
returns-in-Err-clause-free g c = rw c.answer.ensures (refused-enters c.args.queues.now.setup
    (g.S.EntryStore.content c.args.store.now) c.in-Err.reason)

pub unreachable-requires : goal.unreachable-requires
unreachable-requires g c =
    let found = c.in-Ok.ensures.found in
    let room = c.requires.room
    (is-fetching c.requires.in_step c.in-Ok.ensures.engine refl found.0 found.1 found.2) in
    omega (arith, room, c.in_default.ensures.full.0 refl)

pub give_name-requires : goal.give_name-requires
give_name-requires g c =
    let found = c.in-Ok.ensures.found in
    c.requires.names (is-fetching c.requires.in_step c.in-Ok.ensures.engine refl found.0 found.1 found.2)

pub returns-clause-step : goal.returns-clause-step
returns-clause-step g c fates =
    let found = c.in-Ok.ensures.found in
    fetch-done c.requires.in_step c.in-Ok.ensures.engine refl found.0 found.1 found.2 _ _ _
    c.list-members.ensures
    (ap (λ (k : Kept). k.setup) c.entered.ensures ∙ ap (λ (k : Kept). k.setup) c.give_name.ensures.after)
    c.in-Some.ensures.some c.set_note.ensures c.args.desc c.next_name-name.ensures c.with_pasid.ensures

pub returns-clause-free : goal.returns-clause-free
returns-clause-free g c = unused-is_free _ _ c.in-Some.cell
    (rw c.requires.in_step.store.cells at c.in-Some.ensures.below) c.in-Some.ensures.unused

pub returns-clause-in_step : goal.returns-clause-in_step
returns-clause-in_step g c =
    let found = c.in-Ok.ensures.found in
    in_step-fetched c.requires.in_step c.in-Ok.ensures.engine refl found.0 found.1 found.2 _ _ _
    c.list-members.ensures
    (ap (λ (k : Kept). k.setup) c.entered.ensures ∙ ap (λ (k : Kept). k.setup) c.give_name.ensures.after)
    c.in-Some.ensures.some c.set_note.ensures c.push_back.ensures.cells

-- the batch names a queue of the device, and so does its member
pub entered-requires-clause-there : goal.entered-requires-clause-there
entered-requires-clause-there g c =
    rw c.give_name.ensures.after
    (batch-named c.in-Ok.found.0.batch c.requires.in_step c.requires.counted c.in-Ok.ensures.engine refl
    c.in-Ok.ensures.found.1)

pub entered-requires-clause-room : goal.entered-requires-clause-room
entered-requires-clause-room g c =
    let engine = c.in-Ok.ensures.engine in
    let there = batch-named c.in-Ok.found.0.batch c.requires.in_step c.requires.counted engine refl
    c.in-Ok.ensures.found.1 in
    let lists = c.requires.in_step.store.lists in
    let pushed = counted-pushed c.args.queues.now _ _ c.list-members.result.0 _ _ c.in-Some.ensures.some
    (omega (arith, lists, c.list-members.ensures, engine)) there c.requires.counted in
    rw c.give_name.ensures.after (omega (
      arith,
      pushed.0,
      (g.met.S.EntryStore.sound c.push_back.new.self).room,
      c.push_back.ensures.cells,
      c.requires.in_step.store.cells,
    ))

pub returns-clause-counted : goal.returns-clause-counted
returns-clause-counted g c =
    let engine = c.in-Ok.ensures.engine in
    let there = batch-named c.in-Ok.found.0.batch c.requires.in_step c.requires.counted engine refl
    c.in-Ok.ensures.found.1 in
    let lists = c.requires.in_step.store.lists in
    let pushed = counted-pushed c.args.queues.now _ _ c.list-members.result.0 _ _ c.in-Some.ensures.some
    (omega (arith, lists, c.list-members.ensures, engine)) there c.requires.counted in
    rw (c.entered.ensures, c.give_name.ensures.after) (counted-setup _ _ _ refl refl pushed.1)
