use Rattle.std.proofs.Common.{◌≡◌, true, take, drop, arith}
use Rattle.std.proofs.lemmas.Grind.{common_steps}
use Rattle.dsa_check.specs.{Flaws.{IsSyntaxAt}, Places.{BeginJson}}
use Rattle.dsa_check.proofs.ReadTexts.{one_wrong}
use Rattle.dsa_check.proofs.judge.flaw_of.Goals as goal

pub returns-clause-told : goal.returns-clause-told
returns-clause-told c =
    let bytes = c.args.bytes.now in
    let at = c.moved_to-spot-2.result.at in
    let yes : c.in_ok-begins_json.field-0 ≡ true = grind (arith, common_steps) in
    let begins : BeginJson (take at bytes) = rw (← c.split_at.ensures.front) (c.in_ok-begins_json.ensures.begun yes) in
    let syntax : IsSyntaxAt (take at bytes) (drop at bytes) c.in_ok-syntax.syntax =
    rw (← c.split_at.ensures.front, ← c.split_at.ensures.back)
    (c.in_ok-syntax.ensures (c.in_ok-begins_json.ensures.wanted yes) c.in_ok-begin.ensures.spot
    c.in_ok-begin.ensures.goes_on) in
    one_wrong bytes at _ c.in_ok-vec-2.field-0.items c.in_ok-vec-2.ensures.items (begins, syntax)
