use Rattle.dsa_trace.proofs.columns.add_state.Goals as goal
use Rattle.std.proofs.Common.{◌++◌, string_bytes}
use Rattle.std.proofs.lemmas.Result.{on_ok_weaker}
use Rattle.dsa_trace.specs.declared.form.Trace.TheVariants.{Json}
use Rattle.dsa_trace.specs.declared.form.Part.TheVariants.{StateStart, ObjectEnd}
use Rattle.dsa_trace.specs.{Columns.{state_members}, Marks.{mark}}
use Rattle.dsa_trace.proofs.Adding.{behind}

pub returns : goal.returns
returns g c =
    let members = state_members Json c.args.device.now.caps c.args.device.now.state in
    let end = mark Json ObjectEnd in
    let before = string_bytes c.args.text.now in
    let started = string_bytes c.add_mark.new.text in
    on_ok_weaker c.add_mark-2.result
    (λ added. behind before (mark Json StateStart) (members ++ end) c.in_ok-add_mark.ensures
    (behind started members end c.in_ok-add_state_members.ensures added))
    c.add_mark-2.ensures
