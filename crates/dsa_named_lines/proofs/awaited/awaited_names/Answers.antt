use Rattle.dsa_named_lines.proofs.awaited.awaited_names.Goals as goal
use Rattle.std.proofs.Common.{arith}
use Rattle.dsa_device.proofs.Known.{shape_of}
use Rattle.dsa_admin.specs.Admin.{is_waited_for}
use Rattle.dsa_explain.proofs.Holding.{names-step}
use Rattle.dsa_named_lines.proofs.Told.{names-next}

pub loop-number-preserved : goal.loop-number-preserved
loop-number-preserved g c =
    let here = names-step c.args.device.now.state c.args.device.now.caps c.caps-caps.result
    (shape_of c.args.device.now c.state_is_replay.ensures.past) c.caps-caps.ensures c.list_use.result c.loop-number.number
    (omega (arith, c.loop-number-test.true, c.list_count-number-end.ensures)) c.list_use.ensures.use_of
    c.list_use.ensures.number (is_waited_for c.in-Some.noted) in
    names-next _ _ _ _ _ _ _ c.loop-number.invariant here c.in_ok-add_awaited.ensures
