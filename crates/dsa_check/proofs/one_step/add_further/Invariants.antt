use Rattle.dsa_check.proofs.one_step.add_further.Given as goal
use Rattle.std.proofs.Common.{◌≡◌, ◌++◌, codes, string_bytes, take, map, flat_map}
use Rattle.dsa_check.specs.Lines.{reason_text}

abbrev pub invariant-loop-reason : goal.invariant-loop-reason
invariant-loop-reason l = string_bytes l.text
    ≡ string_bytes l.initial.text ++ flat_map (λ next. codes "; " ++ next) (map reason_text (take l.reason-index l.reasons))
