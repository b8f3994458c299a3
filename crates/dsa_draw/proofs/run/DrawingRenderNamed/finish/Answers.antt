use Rattle.dsa_draw.proofs.run.DrawingRenderNamed.finish.Goals as goal
use Rattle.std.proofs.{Common.{◌∙◌, refl}, lemmas.Result.{IfOk-weaker}}

pub returns : goal.returns
returns g c = IfOk-weaker c.draw.result _ _ (λ text is steps h. (
  record { caps = c.caps.result; moments = c.args.page; fates = c.extend_from_slice.new.self },
  record {
    caps = c.caps.ensures;
    each = h;
    fates = c.in_ok-extend_from_slice.ensures.items ∙ rw (c.new-fates.ensures.items, c.fates.ensures) refl;
  },
  is,
)) c.draw.ensures
