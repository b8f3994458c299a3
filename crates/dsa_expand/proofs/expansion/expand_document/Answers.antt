use Rattle.dsa_expand.proofs.expansion.expand_document.Goals as goal
use Rattle.std.proofs.Common.{map, inr}
use Rattle.serde_json.specs.View.{view}
use Rattle.dsa_expand.specs.Members.{pairs_of_step}
use Rattle.dsa_expand.proofs.{Walked.{expanded_by}, Whole.{is_of_device, is_stuck, form_of, steps_flat}}

pub returns-in-Some-clause-err : goal.returns-in-Some-clause-err
returns-in-Some-clause-err c =
    let caps = c.args.head.now.caps in
    let capacity = c.args.head.now.capacity in
    let walked = c.in_ok-i.ensures caps capacity c.in-Ok.ensures.first in
    inr (is_stuck c.args.bytes.now (view c.args.document.now) caps capacity c.args.head.now.steps.now c.requires.json
    c.requires.head c.in-Some.i c.in-Ok.ensures.opening (rw c.in-Some.is at walked))

pub returns-clause-ok : goal.returns-clause-ok
returns-clause-ok c =
    let caps = c.args.head.now.caps in
    let capacity = c.args.head.now.capacity in
    let walked = c.in_ok-i.ensures caps capacity c.in-Ok.ensures.first in
    form_of c.args.bytes.now (view c.args.document.now) caps capacity c.args.head.now.steps.now c.requires.json
    c.requires.head (map pairs_of_step c.walk_steps.new.walk.strict.items) c.in_ok-text.text
    (expanded_by caps capacity _ _ _ _ _ (rw c.in_default.is at walked)) c.in-Ok.ensures.opening
    (rw c.as_slice.ensures.value at c.in_ok-text.ensures)

pub returns-in-Err-clause-err : goal.returns-in-Err-clause-err
returns-in-Err-clause-err c =
    is_of_device c.args.bytes.now (view c.args.document.now) c.args.head.now.caps c.args.head.now.capacity
    c.args.head.now.steps.now c.requires.json c.requires.head c.in-Err.fault _ c.in-Err.ensures.fault
    c.fault_of_device.ensures

pub fault_of_device-requires : goal.fault_of_device-requires
fault_of_device-requires c =
    steps_flat c.args.bytes.now (view c.args.document.now) c.args.head.now.caps c.args.head.now.capacity
    c.args.head.now.steps.now c.requires.json c.requires.head

pub walk_steps-requires : goal.walk_steps-requires
walk_steps-requires c =
    steps_flat c.args.bytes.now (view c.args.document.now) c.args.head.now.caps c.args.head.now.capacity
    c.args.head.now.steps.now c.requires.json c.requires.head
