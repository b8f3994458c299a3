use Rattle.dsa_draw.proofs.bands.push_bands.Goals as goal
use Rattle.std.proofs.Common.{◌∙◌, ℕ, refl, append_assoc, arith}
use Rattle.std.proofs.lemmas.List.FromFn.{map-range_with_len_more}
use Rattle.dsa_draw.specs.declared.bands.Band.{Band}

pub loop-number-preserved : goal.loop-number-preserved
loop-number-preserved c =
    let band : ℕ → Band = λ n. record { kind = c.args.kind; number = n } in
    c.in_ok-push.ensures.items
    ∙ rw (
      map-range_with_len_more band 0 c.loop-number.number c.loop-number.number (omega arith),
      c.loop-number.invariant,
      append_assoc,
    ) refl
