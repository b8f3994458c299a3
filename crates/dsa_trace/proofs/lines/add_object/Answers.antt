use Rattle.dsa_trace.proofs.lines.add_object.Goals as goal
use Rattle.std.proofs.Common.{◌++◌, string_bytes}
use Rattle.std.proofs.lemmas.Result.{on_ok_weaker}
use Rattle.dsa_trace.specs.declared.form.{Trace.TheVariants.{Json}, Part.TheVariants.{Step, Event, LineEnd}}
use Rattle.dsa_trace.specs.{Columns.{marked, state_members}, Lines.{answered_text, outcome_text}, Marks.{mark}}
use Rattle.dsa_trace.specs.Lines.{traced_event_words}
use Rattle.dsa_trace.proofs.Adding.{behind}

pub returns : goal.returns
returns g c =
    let form = Json in
    let entry = c.args.step.now.entry.now in
    let now = c.args.step.now.device.now in
    let number = marked form Step c.args.step.now.number in
    let event = mark form Event ++ traced_event_words entry in
    let outcome = outcome_text entry now.state.work.fates in
    let members = state_members form now.caps now.state in
    let before = string_bytes c.args.text.now in
    on_ok_weaker c.add_mark.result
    (behind before _ (mark form LineEnd)
    (behind before _ members
    (behind before _ outcome
    (behind before _ (answered_text form entry)
    (behind before number event c.in_ok-add_place.ensures c.in_ok-add_asked.ensures)
    c.in_ok-add_answered.ensures)
    c.in_ok-add_outcome.ensures)
    c.in_ok-add_state_members.ensures))
    c.add_mark.ensures
