use Rattle.dsa_check.proofs.checking.first_warned.Goals as goal
use Rattle.std.proofs.Common.{◌≢◌, ◌∙◌, ◌+◌, [], drop, sym, arith}
use Rattle.std.proofs.lemmas.{Grind.{common_steps}, List.{drop_more}}
use Rattle.dsa_check.proofs.Warned.{first_here}

pub returns-then-not-is_empty : goal.returns-then-not-is_empty
returns-then-not-is_empty c =
    let warnings = c.args.warnings.now in
    let i = c.loop-warning.warning-index in
    let warning = c.warning-item.result in
    let some : warning.reasons.items ≢ [] = grind (arith, common_steps) in
    let next = drop_more warnings i warning c.loop-warning-test.true in
    let so = rw (next, ← c.warning-item.is) at c.loop-warning.invariant in
    sym (first_here warning (drop (i + 1) warnings) some) ∙ so
