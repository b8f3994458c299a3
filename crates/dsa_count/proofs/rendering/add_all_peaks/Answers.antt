use Rattle.dsa_count.proofs.rendering.add_all_peaks.Goals as goal
use Rattle.std.proofs.Common.{◌∙◌, append_assoc}
use Rattle.std.proofs.lemmas.Result.{on_ok_weaker}
use Rattle.dsa_count.specs.declared.peaks.Holder.TheVariants.{Queue, Group}
use Rattle.dsa_count.proofs.Rising.{peaks-told}

pub returns : goal.returns
returns c = on_ok_weaker c.add_peaks-2.result
    (λ added steps h.
    added ∙ rw (
      c.in_ok-add_peaks.ensures,
      peaks-told Queue steps _ _ _ _ c.deref.ensures.value c.deref-2.ensures.value h.occupancies h.sizes,
      peaks-told Group steps _ _ _ _ c.deref-3.ensures.value c.deref-4.ensures.value h.used h.allowed,
    ) (simp append_assoc))
    c.add_peaks-2.ensures
