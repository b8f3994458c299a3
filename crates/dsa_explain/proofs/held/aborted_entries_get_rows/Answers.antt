use Rattle.dsa_explain.proofs.held.aborted_entries_get_rows.Goals as goal
use Rattle.std.proofs.Common.{◌++◌, map, filter, sym, ap, ◌∙◌}
use Rattle.dsa_regs.specs.Command.{number_of_command, scope_of}
use Rattle.dsa_store.specs.{declared.entry.Entry.{Entry}, Content.{HeldEntry}}
use Rattle.dsa_book.specs.{Commands.{is_in_scope}, Work.{fate_row}, declared.fate.Fate.TheVariants.{Aborted}}
use Rattle.dsa_explain.specs.Held.{held_entry_of, all_entries, aborted_entries}
use Rattle.dsa_explain.proofs.Holding.{all-told, filter-entries, map-map}

pub returns : goal.returns
returns c = λ s command.
    let rows = ap (filter (λ (pair : HeldEntry). is_in_scope (scope_of command) pair.1))
    (sym (all-told s.work.setup.caps 0 s.work.content)) in
    let slots = filter-entries (λ (e : Entry). is_in_scope (scope_of command) e) (all_entries s) in
    ap (λ l. s.work.fates ++ l)
    (ap (map (fate_row (Aborted (number_of_command command)))) (rows ∙ sym slots)
    ∙ map-map (fate_row (Aborted (number_of_command command))) held_entry_of (aborted_entries s command))
