use Rattle.dsa_scenario.proofs.digits.number_of_others.Goals as goal
use Rattle.std.proofs.Common.{◌≡◌, ◌∙◌, ◌==◌, sym, ap, true, false, get_or, drop, option_and_then}
use Rattle.fast_float.specs.Text.{scan}
use Rattle.serde_json.specs.{Find.{as_u64}, Read.{number_of, number_from}}
use Rattle.dsa_scenario.proofs.Numbers.{none_below_zero, read_as}

pub returns-then-has_minus : goal.returns-then-has_minus
unfolding number_of
returns-then-has_minus c =
    let s = c.args.bytes.now in
    let signed : (get_or s 0 0 == 45) ≡ true = sym c.if-has_minus.ensures in
    let negative : number_from true (scan (drop 1 s)) ≡ number_of s = rw signed in
    sym (none_below_zero (scan (drop 1 s))) ∙ ap (option_and_then as_u64) negative

pub returns : goal.returns
unfolding number_of
returns c =
    let s = c.args.bytes.now in
    let unsigned : (get_or s 0 0 == 45) ≡ false = sym c.if-has_minus.ensures in
    let read : number_from false (scan s) ≡ number_of s = rw unsigned in
    read_as c.scan.result c.to_u64.result c.to_u64.ensures
    ∙ ap (option_and_then as_u64) (ap (number_from false) c.scan.ensures.parts ∙ read)
