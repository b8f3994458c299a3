use Rattle.dsa_recordings.proofs.documents.add_steps.Goals as goal
use Rattle.std.proofs.Common.{◌∷◌, [], refl, string_bytes}
use Rattle.dsa_recordings.proofs.Lines.{line_more, lines_end}

pub loop-step-preserved : goal.loop-step-preserved
unfolding lib.Utf8.encode
loop-step-preserved c = (
  (44 ∷ 10 ∷ [], (refl, refl)),
  rw (c.in_ok-add_step.ensures, c.in_ok-push_str.ensures.bytes)
      (line_more c.args.steps.now c.loop-step.step-index _ (string_bytes c.loop-step.text)
      c.loop-step.mark.now _ c.loop-step-test.true c.loop-step.invariant.1),
)

pub returns : goal.returns
returns c =
    lines_end c.args.steps.now c.loop-step.step-index (string_bytes c.loop-step.text) c.loop-step.mark.now _
    c.loop-step-test.false c.loop-step.invariant.1
