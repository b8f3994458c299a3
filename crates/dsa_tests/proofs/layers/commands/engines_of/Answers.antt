use Rattle.dsa_tests.proofs.layers.commands.engines_of.Goals as goal
use Rattle.std.proofs.{Common.{rules, ◌≡◌, ◌∙◌, true, length, None, ap, arith}, lemmas.List.{length-replicate}}
use Rattle.dsa_regs.specs.{declared.Caps.{Caps}, Caps.{cell_count, list_count}}
use Rattle.dsa_base.proofs.Tables.{not-both}
use Rattle.dsa_store.specs.Content.{held_count}
use Rattle.dsa_book.specs.State.{is_off}
use Rattle.dsa_engines.specs.Engines.{EnginesState}

pub returns : goal.returns
returns g c =
    let off : is_off c.args.queues.now.setup.device ≡ true = search rules in
    let lists = ap list_count c.caps-caps.ensures.value in
    let count = ap cell_count c.caps-caps.ensures.value in
    let none : held_count (g.S.EntryStore.content c.args.store.now) ≡ 0 =
    omega (arith, c.free.ensures, c.cells-2.ensures) in
    record {
      in_step = record {
        queues = c.caps-caps.ensures.whole;
        store = record {
          lists = omega (arith, c.lists.ensures, c.list_count.ensures, lists);
          cells =
              omega (arith, c.cells.ensures, c.cell_count.ensures.number, count);
        };
        idle = λ is. none;
        checked = λ on. not-both _ off on;
        notes = ap (λ (x : EnginesState). length x.notes) c.new.ensures.value
            ∙ length-replicate c.caps-caps.result.engines None ∙ ap (λ (x : Caps). x.engines) c.caps-caps.ensures.value;
        homes = λ on. not-both _ off on;
        buffers = λ on. not-both _ off on;
      };
      counted = c.requires (g.S.EntryStore.content c.args.store.now) none;
    }
