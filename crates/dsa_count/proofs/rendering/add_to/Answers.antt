use Rattle.dsa_count.proofs.rendering.add_to.Goals as goal
use Rattle.std.proofs.Common.{◌∙◌, [], ◌∷◌, ◌++◌, ap, sym}
use Rattle.std.proofs.lemmas.List.{map-append}
use Rattle.dsa_scenario.specs.Steps.{Visit, visit}
use Rattle.dsa_count.specs.declared.peaks.Gauge.TheVariants.{Occupancy, Size, Used, Allowed}
use Rattle.dsa_count.proofs.Rising.{peaks-push}

pub returns : goal.returns
returns g c = λ steps before h.
    let step = visit c.args.step.now.number before c.args.step.now.entry.now c.args.step.now.device.now in
    record {
      entries =
          c.in_ok-push.ensures.items ∙ ap (λ l. l ++ c.args.step.now.entry.now ∷ []) h.entries
          ∙ sym (map-append (λ (step : Visit). step.entry) steps (step ∷ []));
      occupancies = peaks-push Occupancy steps step _ _ _ c.deref.ensures.value h.occupancies c.in_ok-page.ensures;
      sizes = peaks-push Size steps step _ _ _ c.deref-2.ensures.value h.sizes c.in_ok-page-2.ensures;
      used = peaks-push Used steps step _ _ _ c.deref-3.ensures.value h.used c.in_ok-page-3.ensures;
      allowed = peaks-push Allowed steps step _ _ _ c.deref-4.ensures.value h.allowed c.in_ok-page-4.ensures;
    }
