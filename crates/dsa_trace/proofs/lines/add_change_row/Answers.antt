use Rattle.dsa_trace.proofs.lines.add_change_row.Goals as goal
use Rattle.std.proofs.Common.{◌++◌, string_bytes}
use Rattle.std.proofs.lemmas.Result.{on_ok_weaker}
use Rattle.dsa_trace.specs.declared.form.{Trace.TheVariants.{Changes}, Part.TheVariants.{Event, LineEnd, Step}}
use Rattle.dsa_trace.specs.Changes.{changed_columns, changed_lists, line_texts}
use Rattle.dsa_trace.specs.{Columns.{marked}, Lines.{answered_text, traced_event_words}, Marks.{mark}}
use Rattle.dsa_trace.proofs.Adding.{behind}

pub returns : goal.returns
returns g c =
    let entry = c.args.step.now.entry.now in
    let caps = c.args.step.now.device.now.caps in
    let was = line_texts c.args.was.now in
    let now = line_texts c.args.now.now in
    let number = marked Changes Step c.args.step.now.number in
    let event = mark Changes Event ++ traced_event_words entry in
    let before = string_bytes c.args.text.now in
    on_ok_weaker c.add_mark.result
    (behind before _ (mark Changes LineEnd)
    (behind before _ (changed_lists was now caps)
    (behind before _ (answered_text Changes entry)
    (behind before _ event
    (behind before number (changed_columns was now caps) c.in_ok-add_place.ensures c.in_ok-add_changed_columns.ensures)
    c.in_ok-add_asked.ensures)
    c.in_ok-add_answered.ensures)
    c.in_ok-add_changed_lists.ensures))
    c.add_mark.ensures
