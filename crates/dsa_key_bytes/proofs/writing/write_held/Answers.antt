use Rattle.std.proofs.Common.{[], ◌∷◌, ap, sym, ◌∙◌}
use Rattle.dsa_store.specs.Content.{all_held}
use Rattle.dsa_key_bytes.specs.{Line.{with_numbers}, KeyBytes.{optional, numbers_of_command}}
use Rattle.dsa_key_bytes.proofs.Lines.{written-more, written-three}
use Rattle.dsa_key_bytes.proofs.Walked.{drains-numbers, awaited-numbers}
use Rattle.dsa_key_bytes.proofs.writing.write_held.Goals as goal

pub returns : goal.returns
returns g c =
    let s = c.args.device.now.state in
    let held = all_held s.work.content in
    let rows = c.write_drains.ensures ∙ ap (with_numbers c.write_notes.new.line) (sym (drains-numbers s held)) in
    let command = c.write_command.ensures
    ∙ ap (λ command. with_numbers c.write_number.new.self (optional numbers_of_command command)) c.active.ensures in
    let awaited = c.write_marks.ensures ∙ ap (with_numbers c.write_command.new.line) (awaited-numbers s held) in
    written-three c.args.line.now c.write_lists.new.line c.write_notes.new.line c.write_number-2.new.self _ _ _
    c.write_lists.ensures c.write_notes.ensures
    (written-three c.write_notes.new.line c.write_number.new.self c.write_command.new.line c.write_number-2.new.self _ _ _
    (written-more c.write_notes.new.line c.write_drains.new.line c.write_number.new.self _ (0 ∷ []) rows
    c.write_number.ensures)
    command
    (written-more c.write_command.new.line c.write_marks.new.line c.write_number-2.new.self _ (0 ∷ []) awaited
    c.write_number-2.ensures))
