use Rattle.dsa_explain_lines.proofs.engines.add_finish_reason.Goals as goal
use Rattle.std.proofs.{Common.{◌∙◌, append_assoc, refl}, lemmas.Result.{on_ok_weaker}}

pub returns-in_ok-push_str-in-Elsewhere : goal.returns-in_ok-push_str-in-Elsewhere
returns-in_ok-push_str-in-Elsewhere c = rw c.in-Elsewhere.is (on_ok_weaker c.add_list.result
    (λ e. e ∙ rw (c.in_ok-push_str-in-Elsewhere.ensures.bytes, append_assoc) refl) c.add_list.ensures)

pub returns-in-MembersLeft : goal.returns-in-MembersLeft
returns-in-MembersLeft c = rw (c.in-MembersLeft.is, ← c.from.ensures) c.add_count.ensures

pub returns-in-DrainWaits : goal.returns-in-DrainWaits
returns-in-DrainWaits c = rw c.in-DrainWaits.is c.add_counted-in-DrainWaits.ensures
