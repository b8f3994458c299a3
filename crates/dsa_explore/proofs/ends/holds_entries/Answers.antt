use Rattle.dsa_explore.proofs.ends.holds_entries.Goals as goal
use Rattle.std.proofs.Common.{◌∙◌, ap, sym, length}
use Rattle.std.specs.Prelude.{nat_lt}
use Rattle.dsa_regs.specs.Caps.{list_number}
use Rattle.dsa_explore.proofs.Endings.{held-one}

pub returns-then-has_entry : goal.returns-then-has_entry
returns-then-has_entry g c =
    sym (held-one c.args.device.now.state.work.content (list_number c.args.device.now.caps c.list_use.result)
    (ap (λ l. nat_lt 0 (length l)) (sym c.entries_of_list-entries.ensures) ∙ sym c.has_entry.ensures
    ∙ c.if-has_entry.true))
