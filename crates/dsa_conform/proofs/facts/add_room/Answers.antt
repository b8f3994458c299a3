use Rattle.dsa_conform.proofs.facts.add_room.Goals as goal
use Rattle.std.proofs.Common.{ℕ, List, ◌++◌, codes, decimal, string_bytes}
use Rattle.std.proofs.lemmas.Result.{on_ok_weaker}
use Rattle.dsa_event_text.specs.Text.{count_text}
use Rattle.dsa_explain_lines.proofs.Joining.{behind}

pub returns : goal.returns
returns c =
    let room : List ℕ =
    count_text (codes "the history has room for ") c.args.capacity (codes "step") (codes "steps") in
    on_ok_weaker c.add_size.result
    (λ added. behind (string_bytes c.args.text.now) room (codes ", and has " ++ decimal c.args.made) _ _
    c.in_ok-add_count.ensures added)
    c.add_size.ensures
