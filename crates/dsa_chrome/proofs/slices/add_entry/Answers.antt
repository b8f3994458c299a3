use Rattle.dsa_chrome.proofs.slices.add_entry.Goals as goal
use Rattle.std.proofs.Common.{◌∙◌, append_assoc}
use Rattle.std.proofs.lemmas.Result.{on_ok_weaker}

pub returns : goal.returns
returns c = on_ok_weaker c.add_number-5.result
    (λ added. added
    ∙ rw (
      c.in_ok-add_number-4.ensures,
      c.in_ok-add_number-3.ensures,
      c.in_ok-add_number-2.ensures,
      c.in_ok-add_batch_arg.ensures,
      c.in_ok-add_number.ensures,
      c.from.ensures,
      c.from-2.ensures,
    ) (simp append_assoc))
    c.add_number-5.ensures
