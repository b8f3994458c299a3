use Rattle.dsa_recordings.proofs.documents.add_caps.Goals as goal
use Rattle.std.proofs.Common.{◌∙◌, codes, string_bytes}
use Rattle.std.proofs.lemmas.Result.{on_ok_weaker}
use Rattle.dsa_recordings.specs.{Recordings.{natural}, Texts.{plain_member_text, further_member}}
use Rattle.dsa_recordings.proofs.Adding.{object_of_eight, pushed}

pub returns : goal.returns
returns c =
    let caps = c.args.caps.now in
    on_ok_weaker c.push_str.result
    (λ added. added
    ∙ rw (
      c.in_ok-add_number_at-7.ensures,
      c.from-8.ensures,
      c.in_ok-add_number_at-6.ensures,
      c.from-7.ensures,
      c.in_ok-add_number_at-5.ensures,
      c.from-6.ensures,
      c.in_ok-add_number_at-4.ensures,
      c.from-5.ensures,
      c.in_ok-add_number_at-3.ensures,
      c.from-4.ensures,
      c.in_ok-add_number_at-2.ensures,
      c.from-3.ensures,
      c.in_ok-add_number_at.ensures,
      c.from-2.ensures,
      c.in_ok-add_number.ensures,
      c.from.ensures,
    ) (object_of_eight (string_bytes c.args.text.now) (codes "{") (plain_member_text (codes "queues", natural caps.queues))
    (further_member (codes "groups", natural caps.groups))
    (further_member (codes "engines", natural caps.engines))
    (further_member (codes "total_size", natural caps.total_size))
    (further_member (codes "read_buffers", natural caps.read_buffers))
    (further_member (codes "slots", natural caps.slots))
    (further_member (codes "max_batch_shift", natural caps.max_batch_shift))
    (further_member (codes "max_xfer_shift", natural caps.max_xfer_shift))
    (codes "}")))
    (pushed c.push_str.result (string_bytes c.add_number_at-7.new.text) (codes "}") (string_bytes c.push_str.new.self)
    c.push_str.ensures.bytes)
