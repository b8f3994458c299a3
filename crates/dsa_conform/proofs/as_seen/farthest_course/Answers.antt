use Rattle.dsa_conform.proofs.as_seen.farthest_course.Goals as goal
use Rattle.std.proofs.Common.{string_bytes}
use Rattle.dsa_conform.proofs.ToldAgain.{farthest_of}

pub returns-then-alone-count : goal.returns-then-alone-count
returns-then-alone-count c =
    (farthest_of c.args.head.now.caps c.args.head.now.capacity c.args.head.now.steps.now c.in_ok-fault.field-0.fault
    (string_bytes c.in_ok-fault.field-0.text) _ c.in_ok-fault.ensures (cc)).0

pub choices_before-requires-clause-inside : goal.choices_before-requires-clause-inside
choices_before-requires-clause-inside c =
    (farthest_of c.args.head.now.caps c.args.head.now.capacity c.args.head.now.steps.now c.in_ok-fault.field-0.fault
    (string_bytes c.in_ok-fault.field-0.text) _ c.in_ok-fault.ensures (cc)).1

pub returns : goal.returns
returns c =
    (farthest_of c.args.head.now.caps c.args.head.now.capacity c.args.head.now.steps.now c.in_ok-fault.field-0.fault
    (string_bytes c.in_ok-fault.field-0.text) _ c.in_ok-fault.ensures (cc)).0
