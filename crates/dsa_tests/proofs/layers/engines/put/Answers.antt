use Rattle.dsa_tests.proofs.layers.engines.put.Goals as goal
use Rattle.std.proofs.Common.{rules, ◌≡◌, ◌<◌, true, false, ◌++◌, [], ◌∷◌, sym, subst, ap, arith, refl}
use Rattle.std.proofs.lemmas.Bool.{lt-ltb}
use Rattle.dsa_regs.specs.declared.Caps.{Caps}
use Rattle.dsa_store.specs.Content.{Content, chain}
use Rattle.dsa_book.specs.State.{is_off, has_queue}
use Rattle.dsa_queues.proofs.Counts.{counted-pushed}
use Rattle.dsa_engines.{specs.Engines.{IsInStep}, proofs.Keeping.{in_step-queue}}

pub entered-requires-clause-there : goal.entered-requires-clause-there
entered-requires-clause-there g c =
    let queue : c.args.entry.queue < c.args.queues.now.setup.caps.queues =
    omega (arith, ap (λ (x : Caps). x.queues) c.caps-caps.ensures.value) in
    lt-ltb _ _ queue

pub entered-requires-clause-room : goal.entered-requires-clause-room
entered-requires-clause-room g c =
    let queue : c.args.entry.queue < c.args.queues.now.setup.caps.queues =
    omega (arith, ap (λ (x : Caps). x.queues) c.caps-caps.ensures.value) in
    let pushed = counted-pushed c.args.queues.now _ _ c.args.entry.queue _ _ c.in-Some.ensures.some
    (omega (arith, queue, c.requires.in_step.store.lists)) (lt-ltb _ _ queue) c.requires.counted in
    omega (
      arith,
      pushed.0,
      (g.met.S.EntryStore.sound c.push_back.new.self).room,
      c.push_back.ensures.cells,
      c.requires.in_step.store.cells,
    )

pub returns : goal.returns
returns g c =
    let on : is_off c.args.queues.now.setup.device ≡ false = search rules in
    let content : Content = g.S.EntryStore.content c.args.store.now in
    let q = c.args.entry.queue in
    let queue : c.args.entry.queue < c.args.queues.now.setup.caps.queues =
    omega (arith, ap (λ (x : Caps). x.queues) c.caps-caps.ensures.value) in
    let pushed = counted-pushed c.args.queues.now _ _ c.args.entry.queue _ _ c.in-Some.ensures.some
    (omega (arith, queue, c.requires.in_step.store.lists)) (lt-ltb _ _ queue) c.requires.counted in
    rw c.entered.ensures (record {
      in_step = subst (λ (x : Content). IsInStep c.args.queues.now.setup c.args.engines.now
          (g.S.EntryStore.cells c.push_back.new.self) x) (sym c.in-Some.ensures.some)
          (in_step-queue c.requires.in_step on c.push_back.ensures.cells q
          (chain content q ++ (c.in-Some.cell, c.args.entry) ∷ []) queue);
      counted = pushed.1;
    })
