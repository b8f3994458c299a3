use Rattle.dsa_explain.proofs.done.done_reason.Goals as goal
use Rattle.std.proofs.Common.{sym, ap, ◌∙◌}
use Rattle.std.specs.Prelude.{option_map, option_and_then}
use Rattle.dsa_store.specs.Content.{HeldEntry}
use Rattle.dsa_book.specs.Work.{last_status}
use Rattle.dsa_explain.specs.Done.{status_reason}

pub returns : goal.returns
returns g c =
    let w = c.args.device.now.state.work in
    let cell = c.args.ticket.cell in
    let found = ap (λ entry. option_map (λ it. (cell, it)) entry) (sym c.in_ok-entry.was) ∙ c.ending_entry.ensures in
    c.status_reason.ensures
    ∙ ap (λ status. status_reason w c.in_ok-entry.entry status) (c.status_at_end-status.ensures cell)
    ∙ ap (λ ending. option_and_then
    (λ (pair : HeldEntry). status_reason w pair.1 (last_status w c.args.engine pair c.args.outcome)) ending) found
