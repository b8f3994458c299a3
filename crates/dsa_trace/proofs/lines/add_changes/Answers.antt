use Rattle.dsa_trace.proofs.lines.add_changes.Goals as goal
use Rattle.std.proofs.Common.{◌≡◌, ◌∙◌, ℕ, List, ◌++◌, ap, string_bytes}
use Rattle.std.proofs.lemmas.Result.{on_ok_weaker}
use Rattle.std.specs.Str.Lines.{lines}
use Rattle.dsa_trace.specs.Changes.{snapshot, line_texts}
use Rattle.dsa_trace.proofs.Snapshots.{row_of_lines}

pub returns : goal.returns
returns g c =
    let step = c.args.step.now in
    let device = step.device.now in
    let made : c.deref.result.now ≡ snapshot device.caps device.state =
    c.deref.ensures ∙ c.in_ok-add_snapshot.ensures
    ∙ ap (λ (text : List ℕ). text ++ snapshot device.caps device.state) c.new-snapshot.ensures.bytes in
    on_ok_weaker c.add_change_row.result
    (row_of_lines (string_bytes c.args.text.now) _ step.told.now (line_texts c.as_slice.result.now)
    (line_texts c.as_slice-2.result.now) step.number step.entry.now device
    (ap line_texts c.as_slice.ensures.value ∙ c.in_ok-was.ensures)
    (ap line_texts c.as_slice-2.ensures.value ∙ c.in_ok-now.ensures ∙ ap lines made))
    c.add_change_row.ensures
