use Rattle.dsa_count.proofs.rendering.TotalsRenderSteps.finish.Goals as goal
use Rattle.std.proofs.Common.{◌∙◌, append_assoc}

pub returns : goal.returns
returns g c = λ steps h.
    c.in_ok-add_fates.ensures ∙ rw (
      c.in_ok-add_commands.ensures,
      c.in_ok-add_all_peaks.ensures steps h,
      c.in_ok-add_tallies.ensures,
      c.new-text.ensures.bytes,
      c.deref.ensures.value,
      c.deref-2.ensures.value,
      h.entries,
      c.fates.ensures,
    ) (simp append_assoc)
