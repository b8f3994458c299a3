use Rattle.dsa_draw.proofs.moment.levels.Goals as goal
use Rattle.std.proofs.Common.{◌∙◌, refl, arith}
use Rattle.std.proofs.lemmas.List.FromFn.{map-range_with_len_more}
use Rattle.dsa_draw.specs.Moments.{level_of}

pub loop-number-preserved : goal.loop-number-preserved
loop-number-preserved g c = c.in_ok-push.ensures.items
    ∙ rw (
      map-range_with_len_more (level_of c.args.device.now c.args.kind) 0 c.loop-number.number c.loop-number.number
          (omega arith),
      c.loop-number.invariant,
      c.level_of.ensures,
    ) refl
