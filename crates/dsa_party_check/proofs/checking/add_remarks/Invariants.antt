use Rattle.dsa_party_check.proofs.checking.add_remarks.Given as goal
use Rattle.std.proofs.Common.{◌≡◌, ◌++◌, string_bytes, take, flat_map}
use Rattle.dsa_party_check.specs.PartyCheck.{party_text_in}

abbrev pub invariant-loop-remark : goal.invariant-loop-remark
invariant-loop-remark l = string_bytes l.text
    ≡ string_bytes l.initial.text ++ flat_map (party_text_in l.form l.bytes) (take l.remark-index l.remarks)
