use Rattle.dsa_tests.proofs.layers.engines.enabled_engines.Goals as goal
use Rattle.std.proofs.Common.{◌≡◌, ◌∙◌, ap, arith}
use Rattle.dsa_regs.specs.{declared.Caps.{Caps}, Caps.{cell_count, list_count}}
use Rattle.dsa_store.specs.Content.{held_count}
use Rattle.dsa_queues.specs.Queues.{IsStoreFor}

pub returns : goal.returns
returns g c =
    let lists = ap list_count c.caps-caps.ensures.value in
    let count = ap cell_count c.caps-caps.ensures.value in
    let none : held_count (g.S.EntryStore.content c.args.store.now) ≡ 0 =
    omega (arith, c.free.ensures, c.cells-2.ensures) in
    record {
      in_step = c.enable.ensures.in_step (g.S.EntryStore.cells c.args.store.now)
          (g.S.EntryStore.content c.args.store.now)
          (record {
            lists = omega (arith, c.lists.ensures, c.list_count.ensures, lists);
            cells =
                omega (arith, c.cells.ensures, c.cell_count.ensures.number, count);
          })
          none;
      counted = c.requires (g.S.EntryStore.content c.args.store.now) none;
    }
