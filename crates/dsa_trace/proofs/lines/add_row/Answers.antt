use Rattle.dsa_trace.proofs.lines.add_row.Goals as goal
use Rattle.std.proofs.Common.{◌++◌, string_bytes}
use Rattle.std.proofs.lemmas.Result.{on_ok_weaker}
use Rattle.std.specs.Prelude.{decimal}
use Rattle.dsa_trace.specs.declared.form.Part.TheVariants.{Event, LineEnd}
use Rattle.dsa_trace.specs.{Columns.{row_columns, command_column}, Held.{names_columns}, Marks.{mark, pad}}
use Rattle.dsa_trace.specs.Lines.{answered_text, traced_event_words}
use Rattle.dsa_trace.proofs.Adding.{behind}

pub returns : goal.returns
returns g c =
    let form = c.args.form in
    let entry = c.args.step.now.entry.now in
    let now = c.args.step.now.device.now in
    let number = pad form c.args.step.now.number now.capacity ++ decimal c.args.step.now.number in
    let columns = row_columns form now.caps now.state in
    let event = mark form Event ++ traced_event_words entry in
    let before = string_bytes c.args.text.now in
    on_ok_weaker c.add_mark.result
    (behind before _ (mark form LineEnd)
    (behind before _ (command_column form now.state)
    (behind before _ (names_columns now.caps now.state)
    (behind before _ (answered_text form entry)
    (behind before _ event
    (behind before number columns c.in_ok-add_aligned_place.ensures c.in_ok-add_columns.ensures)
    c.in_ok-add_asked.ensures)
    c.in_ok-add_answered.ensures)
    c.in_ok-add_names_columns.ensures)
    c.in_ok-add_command_column.ensures))
    c.add_mark.ensures
