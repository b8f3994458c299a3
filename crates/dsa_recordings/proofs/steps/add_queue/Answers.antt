use Rattle.dsa_recordings.proofs.steps.add_queue.Goals as goal
use Rattle.std.proofs.Common.{◌∙◌, codes, string_bytes}
use Rattle.std.proofs.lemmas.Result.{on_ok_weaker}
use Rattle.serde_json.specs.Data.{boolean}
use Rattle.dsa_recordings.specs.{Recordings.{natural}, Texts.{further_member}}
use Rattle.dsa_recordings.proofs.Adding.{eight}

pub returns : goal.returns
returns c =
    let config = c.args.config in
    on_ok_weaker c.add_number_at-7.result
    (λ added. added
    ∙ rw (
      c.from-7.ensures,
      c.in_ok-add_number_at-6.ensures,
      c.from-6.ensures,
      c.in_ok-add_number_at-5.ensures,
      c.from-5.ensures,
      c.in_ok-add_number_at-4.ensures,
      c.from-4.ensures,
      c.in_ok-add_truth_at.ensures,
      c.in_ok-add_number_at-3.ensures,
      c.from-3.ensures,
      c.in_ok-add_number_at-2.ensures,
      c.from-2.ensures,
      c.in_ok-add_number_at.ensures,
      c.from.ensures,
    ) (eight (string_bytes c.args.text.now)
    (further_member (codes "queue", natural c.args.queue))
    (further_member (codes "size", natural config.size))
    (further_member (codes "threshold", natural config.threshold))
    (further_member (codes "dedicated", boolean config.dedicated))
    (further_member (codes "priority", natural config.priority))
    (further_member (codes "pasid", natural config.pasid))
    (further_member (codes "batch", natural config.max_batch_shift))
    (further_member (codes "xfer", natural config.max_xfer_shift))))
    c.add_number_at-7.ensures
