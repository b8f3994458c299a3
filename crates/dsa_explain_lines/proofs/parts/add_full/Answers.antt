use Rattle.dsa_explain_lines.proofs.parts.add_full.Goals as goal
use Rattle.std.proofs.lemmas.Result.{on_ok_weaker}
use Rattle.dsa_explain_lines.specs.Parts.{names_part, room_part}
use Rattle.dsa_explain_lines.proofs.Joining.{behind}

pub returns : goal.returns
returns g c =
    let now = c.args.device.now in
    on_ok_weaker c.add_names_left.result
    (λ e. behind _ (room_part now.capacity) (names_part now) _ _
    (rw c.capacity.ensures at c.in_ok-add_count.ensures) e) c.add_names_left.ensures
