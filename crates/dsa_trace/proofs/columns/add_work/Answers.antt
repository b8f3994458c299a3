use Rattle.dsa_trace.proofs.columns.add_work.Goals as goal
use Rattle.std.proofs.Common.{string_bytes}
use Rattle.std.proofs.lemmas.Result.{on_ok_weaker}
use Rattle.dsa_trace.specs.declared.form.Part.TheVariants.{ObjectEnd}
use Rattle.dsa_trace.specs.{Marks.{mark}, Notes.{batch_part}}
use Rattle.dsa_trace.proofs.Adding.{behind}

pub returns : goal.returns
returns g c =
    let form = c.args.form in
    let batch = batch_part form c.args.note in
    let end = mark form ObjectEnd in
    let before = string_bytes c.args.text.now in
    on_ok_weaker c.add_mark.result
    (behind before _ end
    (behind before _ batch
    (behind before _ _ c.in_ok-add_names.ensures c.in_ok-add_names-2.ensures)
    c.in_ok-add_batch.ensures))
    c.add_mark.ensures
