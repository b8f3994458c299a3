use Rattle.dsa_recordings.proofs.steps.add_group.Goals as goal
use Rattle.std.proofs.Common.{◌∙◌, codes, string_bytes}
use Rattle.std.proofs.lemmas.Result.{on_ok_weaker}
use Rattle.dsa_recordings.specs.{Recordings.{natural}, Texts.{further_member}}
use Rattle.dsa_recordings.proofs.Adding.{five}

pub returns : goal.returns
returns c =
    let config = c.args.config in
    on_ok_weaker c.add_number_at-5.result
    (λ added. added
    ∙ rw (
      c.from-3.ensures,
      c.in_ok-add_number_at-4.ensures,
      c.from-2.ensures,
      c.in_ok-add_number_at-3.ensures,
      c.in_ok-add_number_at-2.ensures,
      c.in_ok-add_number_at.ensures,
      c.from.ensures,
    ) (five (string_bytes c.args.text.now)
    (further_member (codes "group", natural c.args.group))
    (further_member (codes "queues", natural config.queues))
    (further_member (codes "engines", natural config.engines))
    (further_member (codes "reserved", natural config.reserved))
    (further_member (codes "allowed", natural config.allowed))))
    c.add_number_at-5.ensures
