use Rattle.dsa_c.proofs.removed.count_removed.Goals as goal
use Rattle.std.proofs.Common.{◌≡◌, ◌<◌, ◌≤◌, arith, length}
use Rattle.std.proofs.lemmas.List.{take_all}
use Rattle.std.specs.List.{count_by}
use Rattle.dsa_regs.specs.Caps.{list_number}
use Rattle.dsa_regs.specs.Command.{scope_of}
use Rattle.dsa_store.specs.Content.{HeldEntry, chain}
use Rattle.dsa_book.specs.Commands.{is_in_scope}
use Rattle.dsa_admin.proofs.Counting.{first-more}
use Rattle.dsa_device.proofs.Known.{shape_of}
use Rattle.dsa_c.specs.Reasons.{in_32_bits}

pub loop-number-preserved : goal.loop-number-preserved
loop-number-preserved g c =
    let s = c.args.device.now.state in
    let n = c.loop-number.number in
    let shape = shape_of c.args.device.now c.state_is_replay.ensures.past in
    let there : n < length s.work.content = rw (shape.lists, ← c.caps-caps.ensures)
    (omega (arith, c.loop-number-test.true, c.list_count-number-end.ensures)) in
    let number : list_number c.args.device.now.caps c.list_use.result ≡ n =
    rw (← c.caps-caps.ensures) c.list_use.ensures.number in
    let test = λ (pair : HeldEntry). is_in_scope (scope_of c.args.command.now) pair.1 in
    let here : c.count_in.result ≡ in_32_bits (count_by test (chain s.work.content n)) =
    rw (← number, ← c.scope-scope.ensures) c.count_in.ensures in
    omega (arith, c.loop-number.invariant, here, first-more test n s.work.content there, c.saturating_add-count.ensures)

pub returns : goal.returns
returns g c =
    let s = c.args.device.now.state in
    let shape = shape_of c.args.device.now c.state_is_replay.ensures.past in
    let past : length s.work.content ≤ c.loop-number.number = rw (shape.lists, ← c.caps-caps.ensures)
    (omega (arith, c.loop-number-test.false, c.list_count-number-end.ensures)) in
    rw (← take_all c.loop-number.number s.work.content past) c.loop-number.invariant
