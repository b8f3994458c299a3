use Rattle.dsa_explain_lines.proofs.removals.add_lists.Goals as goal
use Rattle.dsa_explain_lines.proofs.removals.add_lists.Goals.{then-is_told, else-is_told}
use Rattle.std.proofs.Common.{◌≡◌, ◌||◌, refl, arith}
use Rattle.dsa_explain.specs.Held.{is_named_by}
use Rattle.dsa_explain.proofs.Holding.{names-step}
use Rattle.dsa_explain_lines.proofs.Naming.{lists-next}
use Rattle.std.proofs.lemmas.Grind.{common_steps}
use Rattle.dsa_device.proofs.Known.{shape_of}

pub loop-number-preserved : goal.loop-number-preserved
loop-number-preserved g c =
    let both : c.if-is_told.is_told ≡ (c.loop-number.is_told || c.in_ok-has_names.has_names) =
    elim c.if-is_told.branch [
      | then-is_told w ↦ rw (w.is_told-is, w.if-is_told.true) refl
      | else-is_told w ↦ rw (w.is_told-is, w.if-is_told.false) refl
    ] in
    let here = names-step c.args.device.now.state c.args.device.now.caps c.caps-caps.result
    (shape_of c.args.device.now c.state_is_replay.ensures.past) c.caps-caps.ensures c.list_use-list.result c.loop-number.number
    (omega (arith, c.loop-number-test.true, c.list_count-number-end.ensures)) c.list_use-list.ensures.use_of
    c.list_use-list.ensures.number (is_named_by c.args.naming.now.named) in
    lists-next _ _ _ _ _ _ c.list_use-list.result _ _ _ c.loop-number.is_told c.in_ok-has_names.has_names c.if-is_told.is_told
    c.mark_of.ensures here c.in_ok-has_names.ensures.told both c.loop-number.invariant c.in_ok-has_names.ensures.text

pub returns : goal.returns
returns = grind (arith, common_steps)
