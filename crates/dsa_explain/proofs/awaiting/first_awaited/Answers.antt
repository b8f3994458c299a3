use Rattle.dsa_explain.proofs.awaiting.first_awaited.Goals as goal
use Rattle.std.proofs.Common.{◌∙◌, sym, arith}
use Rattle.dsa_admin.specs.Admin.{is_waited_for}
use Rattle.dsa_explain.specs.declared.held.ListedEntry.{ListedEntry}
use Rattle.dsa_explain.proofs.Holding.{found-here, found-later}
use Rattle.std.proofs.lemmas.Grind.{common_steps}
use Rattle.dsa_device.proofs.Known.{shape_of}

pub returns-then-is_some : goal.returns-then-is_some
returns-then-is_some g c =
    sym (c.loop-number.invariant
    ∙ found-here c.args.device.now.state c.args.device.now.caps c.caps-caps.result
    (shape_of c.args.device.now c.state_is_replay.ensures.past) c.caps-caps.ensures c.list_use.result c.loop-number.number
    (omega (arith, c.loop-number-test.true, c.list_count-number-end.ensures)) c.list_use.ensures.use_of
    c.list_use.ensures.number (λ (h : ListedEntry). is_waited_for c.args.noted.now h.entry)
    c.first_in-held.result c.first_in-held.ensures (sym c.is_some.ensures ∙ c.if-is_some.true))

pub loop-number-preserved : goal.loop-number-preserved
loop-number-preserved g c =
    c.loop-number.invariant
    ∙ found-later c.args.device.now.state c.args.device.now.caps c.caps-caps.result
    (shape_of c.args.device.now c.state_is_replay.ensures.past) c.caps-caps.ensures c.list_use.result c.loop-number.number
    (omega (arith, c.loop-number-test.true, c.list_count-number-end.ensures)) c.list_use.ensures.use_of
    c.list_use.ensures.number (λ (h : ListedEntry). is_waited_for c.args.noted.now h.entry)
    c.first_in-held.result c.first_in-held.ensures (sym c.is_some.ensures ∙ c.if-is_some.false)

pub returns : goal.returns
returns = grind (arith, common_steps)
