use Rattle.dsa_family.proofs.headings.add_choices.Goals as goal
use Rattle.std.proofs.Common.{string_bytes}
use Rattle.dsa_family.proofs.Texts.{choice_more, choices_end}

pub loop-choice-preserved : goal.loop-choice-preserved
loop-choice-preserved c =
    let made = c.in_ok-add_choice.ensures in (
      c.utf8.next,
      choice_more c.args.heading c.args.first.now c.args.next.now c.args.choices.now (string_bytes c.args.text.now)
          c.loop-choice.before.now c.loop-choice.choice-index c.choice-item.result (string_bytes c.loop-choice.text)
          (string_bytes c.add_choice.new.text) made.0 c.loop-choice-test.true c.choice-item.is made.1 made.2
          c.loop-choice.invariant.1,
    )

pub returns : goal.returns
returns c =
    choices_end c.args.heading c.args.first.now c.args.next.now c.args.choices.now (string_bytes c.args.text.now)
    c.loop-choice.before.now c.loop-choice.choice-index (string_bytes c.loop-choice.text) c.loop-choice-test.false
    c.loop-choice.invariant.1
