use Rattle.dsa_expand.proofs.layout.add_steps.Goals as goal
use Rattle.std.proofs.Common.{string_bytes}
use Rattle.dsa_expand.specs.{Layout.{IsObjectText, AreObjectsTexts}, Members.{pairs_of_step}}
use Rattle.dsa_expand.proofs.Texts.{item_more, items_end, no_objects_text, object_before}

pub loop-step-preserved : goal.loop-step-preserved
loop-step-preserved c =
    let made = rw c.as_slice.ensures.value at c.in_ok-add_object.ensures in (
      c.utf8.next,
      item_more pairs_of_step IsObjectText AreObjectsTexts no_objects_text object_before c.args.first.now c.args.next.now
          c.args.steps.now (string_bytes c.args.text.now) c.loop-step.before.now c.loop-step.step-index
          c.step-item.result (string_bytes c.loop-step.text) (string_bytes c.add_object.new.text) made.0
          c.loop-step-test.true c.step-item.is made.1 made.2 c.loop-step.invariant.1,
    )

pub returns : goal.returns
returns c =
    items_end pairs_of_step IsObjectText AreObjectsTexts no_objects_text object_before c.args.first.now c.args.next.now
    c.args.steps.now (string_bytes c.args.text.now) c.loop-step.before.now c.loop-step.step-index
    (string_bytes c.loop-step.text) c.loop-step-test.false c.loop-step.invariant.1
