use Rattle.dsa_explain.proofs.held.aborted_at.Goals as goal
use Rattle.std.proofs.Common.{◌∙◌, sym, arith}
use Rattle.dsa_regs.specs.Command.{scope_of}
use Rattle.dsa_book.specs.Commands.{is_in_scope}
use Rattle.dsa_explain.{specs.declared.held.ListedEntry.{ListedEntry}, proofs.Holding.{get-here, get-later}}
use Rattle.std.proofs.lemmas.Grind.{common_steps}
use Rattle.dsa_device.proofs.Known.{shape_of}

pub returns-in-Ok : goal.returns-in-Ok
returns-in-Ok g c =
    sym (c.loop-number.invariant
    ∙ get-here c.args.device.now.state c.args.device.now.caps c.caps-caps.result
    (shape_of c.args.device.now c.state_is_replay.ensures.past) c.caps-caps.ensures c.list_use.result c.loop-number.number
    (omega (arith, c.loop-number-test.true, c.list_count-number-end.ensures)) c.list_use.ensures.use_of
    c.list_use.ensures.number (λ (h : ListedEntry). is_in_scope (scope_of c.args.command.now) h.entry) c.loop-number.left
    c.in-Ok.held c.in-Ok.ensures.found)

pub loop-number-preserved : goal.loop-number-preserved
loop-number-preserved g c =
    c.loop-number.invariant
    ∙ get-later c.args.device.now.state c.args.device.now.caps c.caps-caps.result
    (shape_of c.args.device.now c.state_is_replay.ensures.past) c.caps-caps.ensures c.list_use.result c.loop-number.number
    (omega (arith, c.loop-number-test.true, c.list_count-number-end.ensures)) c.list_use.ensures.use_of
    c.list_use.ensures.number (λ (h : ListedEntry). is_in_scope (scope_of c.args.command.now) h.entry) c.loop-number.left
    c.in-Err.rest c.in-Err.ensures.left

pub returns : goal.returns
returns = grind (arith, common_steps)
