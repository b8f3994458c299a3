use Rattle.dsa_explain_lines.proofs.removals.add_lists.Given as goal
use Rattle.std.proofs.Common.{◌≡◌, ◌++◌, cond, codes, drop, string_bytes}
use Rattle.dsa_explain.specs.Held.{is_named_by, lists_from, lists_where}
use Rattle.dsa_explain_lines.specs.Parts.{lists_part}

-- what is told so far, with what is told of the lists from here on
abbrev pub invariant-loop-number : goal.invariant-loop-number
invariant-loop-number g l =
    string_bytes l.initial.text
    ++ lists_part l.naming.verb.now l.first (lists_where (is_named_by l.naming.named) l.device.state)
    ≡ string_bytes l.text ++ lists_part l.naming.verb.now (cond l.is_told (codes "; ") l.first)
    (lists_from l.device.state.work.setup.caps (is_named_by l.naming.named) l.number
    (drop l.number l.device.state.work.content))
