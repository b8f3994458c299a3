use Rattle.dsa_parties.proofs.making.are_in_order.Goals as goal
use Rattle.std.proofs.Common.{◌≡◌, ℕ, length, slice_get, true, false, sym, arith}
use Rattle.std.proofs.lemmas.Grind.{common_steps}
use Rattle.dsa_base.specs.Rows.{passes}
use Rattle.dsa_parties.specs.declared.script.ScriptEntry.{ScriptEntry}
use Rattle.dsa_parties.specs.Scripts.{is_in_order}
use Rattle.dsa_parties.proofs.Tested.{all-miss, all-next}

pub returns-then-not-is_in_order_at : goal.returns-then-not-is_in_order_at
returns-then-not-is_in_order_at c =
    let es = c.args.entries.now in
    let p = λ (label : ℕ). passes (λ (e : ScriptEntry). is_in_order es label e.desc e.origin) (slice_get es label) in
    let e : p c.loop-label.label ≡ false =
    grind (arith, common_steps, c.is_in_order_at.ensures, c.if-not-is_in_order_at.true) in
    sym (all-miss p (length es) c.loop-label.label c.loop-label-test.true e)

pub loop-label-preserved : goal.loop-label-preserved
loop-label-preserved c =
    let es = c.args.entries.now in
    let p = λ (label : ℕ). passes (λ (e : ScriptEntry). is_in_order es label e.desc e.origin) (slice_get es label) in
    let e : p c.loop-label.label ≡ true =
    grind (arith, common_steps, c.is_in_order_at.ensures, c.if-not-is_in_order_at.false) in
    all-next p c.loop-label.label c.loop-label.invariant e
