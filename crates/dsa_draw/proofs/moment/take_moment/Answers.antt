use Rattle.dsa_draw.proofs.moment.take_moment.Goals as goal
use Rattle.std.proofs.Common.{rules, refl}

pub returns : goal.returns
returns g c = λ before told. record {
  number = search rules;
  of_entry = refl;
  reason = rw c.in_ok-from_str.ensures.ok told;
  note = search rules;
  phase = search rules;
  queues = search rules;
  groups = search rules;
  batch = search rules;
  desc = search rules;
  own = search rules;
  ended = search rules;
}
