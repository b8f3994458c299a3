use Rattle.dsa_trace.proofs.notes.add_batch_members.Goals as goal
use Rattle.std.proofs.Common.{◌++◌, string_bytes}
use Rattle.std.proofs.lemmas.Result.{on_ok_weaker}
use Rattle.std.specs.Prelude.{codes, decimal}
use Rattle.dsa_event_text.specs.Text.{truth_text}
use Rattle.dsa_trace.proofs.Adding.{behind}

pub returns : goal.returns
returns c =
    let note = c.args.note.now in
    let name = codes "\"name\":" ++ decimal note.batch in
    let count = codes ",\"count\":" ++ decimal note.count in
    let fetched = codes ",\"fetched\":" ++ decimal note.fetched in
    let failed = codes ",\"failed\":" ++ truth_text note.failed in
    let closed = codes ",\"closed\":" ++ truth_text note.closed in
    let before = string_bytes c.args.text.now in
    on_ok_weaker c.add_flag-2.result
    (behind before (name ++ count ++ fetched ++ failed) closed
    (behind before (name ++ count ++ fetched) failed
    (behind before (name ++ count) fetched
    (behind before name count c.in_ok-add_number.ensures c.in_ok-add_number-2.ensures)
    c.in_ok-add_number-3.ensures)
    c.in_ok-add_flag.ensures))
    c.add_flag-2.ensures
