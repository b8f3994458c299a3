use Rattle.dsa_c.proofs.awaited.write_names.Goals as goal
use Rattle.std.proofs.Common.{ℕ, ◌+◌, List, drop, arith}
use Rattle.dsa_regs.specs.Caps.{list_number}
use Rattle.dsa_store.specs.Content.{chain}
use Rattle.dsa_admin.specs.Admin.{is_waited_for}
use Rattle.dsa_device.proofs.Known.{shape_of}
use Rattle.dsa_explain.{specs.Held.{NamedList, lists_from, names_where}, proofs.Holding.{names-step}}
use Rattle.dsa_c.{specs.Why.{names_of_wait}, proofs.Naming.{all-written, lists-next}}

pub loop-number-preserved : goal.loop-number-preserved
loop-number-preserved g c =
    let s = c.args.device.now.state in
    let list = c.list_use.result in
    let from : ℕ → List NamedList = λ n.
    lists_from s.work.setup.caps (is_waited_for c.args.noted.now) n (drop n s.work.content) in
    let names = names_where (is_waited_for c.args.noted.now)
    (chain s.work.content (list_number c.args.device.now.caps list)) in
    let shape = shape_of c.args.device.now c.state_is_replay.ensures.past in
    let here = names-step s c.args.device.now.caps c.caps-caps.result shape
    c.caps-caps.ensures list c.loop-number.number
    (omega (arith, c.loop-number-test.true, c.list_count-number-end.ensures)) c.list_use.ensures.use_of
    c.list_use.ensures.number (is_waited_for c.args.noted.now) in
    lists-next list names (names_of_wait s c.args.noted.now) c.args.names.now c.loop-number.names
    c.write_names_of-place.new.names (from c.loop-number.number) (from (c.loop-number.number + 1)) c.loop-number.place
    c.write_names_of-place.result here c.loop-number.invariant c.write_names_of-place.ensures

pub returns : goal.returns
returns g c =
    let s = c.args.device.now.state in
    let shape = shape_of c.args.device.now c.state_is_replay.ensures.past in
    all-written s.work.setup.caps (is_waited_for c.args.noted.now) c.loop-number.number s.work.content
    (names_of_wait s c.args.noted.now) c.args.names.now c.loop-number.names c.loop-number.place
    (rw (shape.lists, ← c.caps-caps.ensures, ← c.list_count-number-end.ensures) (omega (arith, c.loop-number-test.false)))
    c.loop-number.invariant
