use Rattle.dsa_recordings.proofs.steps.add_submission.Goals as goal
use Rattle.std.proofs.Common.{◌∙◌, codes, string_bytes}
use Rattle.std.proofs.lemmas.Result.{on_ok_weaker}
use Rattle.serde_json.specs.Data.{boolean, string}
use Rattle.dsa_recordings.specs.{Recordings.{desc_digits, is_limited, natural}, Texts.{further_member}}
use Rattle.dsa_recordings.proofs.Adding.{four, five}

pub returns-in_ok-add_number_at-in-Enqcmd : goal.returns-in_ok-add_number_at-in-Enqcmd
returns-in_ok-add_number_at-in-Enqcmd c =
    rw c.in-Enqcmd.is (on_ok_weaker c.add_desc.result
    (λ added. added
    ∙ rw (
      c.in_ok-add_number_at-in-Enqcmd.ensures,
      c.from-in-Enqcmd.ensures,
      c.in_ok-add_truth_at.ensures,
      c.is_limited.ensures,
      c.in_ok-add_number_at-2.ensures,
      c.from-2.ensures,
      c.in_ok-add_number_at.ensures,
      c.from.ensures,
    ) (five (string_bytes c.args.text.now)
    (further_member (codes "client", natural c.args.client))
    (further_member (codes "queue", natural c.args.queue))
    (further_member (codes "limited", boolean (is_limited c.args.portal)))
    (further_member (codes "pasid", natural c.in-Enqcmd.pasid))
    (further_member (codes "desc", string (desc_digits c.args.desc)))))
    c.add_desc.ensures)

pub returns-in-Movdir64b : goal.returns-in-Movdir64b
returns-in-Movdir64b c =
    rw c.in-Movdir64b.is (on_ok_weaker c.add_desc-in-Movdir64b.result
    (λ added. added
    ∙ rw (
      c.in_ok-add_truth_at.ensures,
      c.is_limited.ensures,
      c.in_ok-add_number_at-2.ensures,
      c.from-2.ensures,
      c.in_ok-add_number_at.ensures,
      c.from.ensures,
    ) (four (string_bytes c.args.text.now)
    (further_member (codes "client", natural c.args.client))
    (further_member (codes "queue", natural c.args.queue))
    (further_member (codes "limited", boolean (is_limited c.args.portal)))
    (further_member (codes "desc", string (desc_digits c.args.desc)))))
    c.add_desc-in-Movdir64b.ensures)
