use Rattle.dsa_device.proofs.device.Device.new.Goals as goal
use Rattle.std.proofs.Common.{◌∙◌, sym, ap}
use Rattle.dsa_device.proofs.Awaiting.{awaiting-none}
use Rattle.dsa_device.proofs.Opening.{clear-of, made-whole, made-rows}

pub returns-clause-opened : goal.returns-clause-opened
returns-clause-opened g c =
    let clear = clear-of c.args.caps c.args.capacity (g.S.EntryStore.cells c.args.store)
    (g.S.EntryStore.content c.args.store) (sym c.make_fault.ensures ∙ c.in_default.is) in
    rw (
      c.new-4.ensures,
      c.new-2.ensures.value,
      c.new-3.ensures.value,
      clear.content,
      c.in-Ok.ensures.history,
      c.in-Ok.ensures.fates,
      c.in-Ok.ensures.room,
      c.in-Ok.ensures.capacity,
      c.in-Ok.ensures.anew,
    )

pub invariant_of-result : goal.invariant_of-result
invariant_of-result g c =
    let clear = clear-of c.args.caps c.args.capacity _ _ (sym c.make_fault.ensures ∙ c.in_default.is) in
    record {
      whole = made-whole c.args.caps _ _ _ _ _ clear (returns-clause-opened g c) c.new-3.ensures.in_step;
      rows_fit = made-rows c.args.caps c.args.capacity _ _ _ _ clear (returns-clause-opened g c)
          c.in-Ok.ensures.row_room;
      counted = c.new-2.ensures.counted _ clear.none;
      awaiting = awaiting-none _ _ _ (ap (λ w. w.active) c.new-4.ensures);
    }
