use Rattle.dsa_scenario.proofs.digits.whole_number.Goals as goal
use Rattle.std.proofs.Common.{◌∙◌, sym, ap, option_and_then}
use Rattle.serde_json.specs.{Find.{as_u64}, Read.{number_of}}

pub returns-in-Some : goal.returns-in-Some
returns-in-Some c =
    sym (ap (option_and_then as_u64) (ap number_of (sym c.as_bytes-bytes.ensures.value) ∙ c.in-Some.ensures))

pub returns : goal.returns
returns c = c.number_of_others.ensures ∙ ap (λ s. option_and_then as_u64 (number_of s)) c.as_bytes-bytes.ensures.value
