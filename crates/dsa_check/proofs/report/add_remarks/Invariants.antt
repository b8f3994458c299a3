use Rattle.dsa_check.proofs.report.add_remarks.Given as goal
use Rattle.std.proofs.Common.{◌≡◌, ◌++◌, string_bytes, take, flat_map}
use Rattle.dsa_check.specs.Check.{text_in}

abbrev pub invariant-loop-remark : goal.invariant-loop-remark
invariant-loop-remark l = string_bytes l.text
    ≡ string_bytes l.initial.text ++ flat_map (text_in l.form l.bytes) (take l.remark-index l.remarks)
