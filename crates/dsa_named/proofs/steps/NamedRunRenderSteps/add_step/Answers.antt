use Rattle.dsa_named.proofs.steps.NamedRunRenderSteps.add_step.Goals as goal
use Rattle.std.proofs.Common.{◌∙◌, ap, sym, subst, map, ◌++◌, filter_map, ◌∷◌, []}
use Rattle.std.proofs.lemmas.Result.{on_ok_weaker}
use Rattle.serde_json.specs.View.{view}
use Rattle.dsa_scenario.specs.Steps.{visit}
use Rattle.dsa_named.specs.Names.{given_at, own_of}
use Rattle.dsa_named.specs.Steps.{named_visit, named_visits}
use Rattle.dsa_named.proofs.More.{named-more, names-more}

pub returns : goal.returns
returns g c =
    let step = c.args.step.now in
    let what = c.args.self.now.what.now in
    let objects = map view c.args.self.now.steps.now in
    on_ok_weaker c.add_step.result
    (λ adds steps before told made.
    let here = visit step.number before step.entry.now step.device.now in
    let names = c.in_ok-note_name.ensures
    ∙ ap (λ l. l ++ filter_map (given_at objects step.number) (step.entry.now ∷ [])) made.1
    ∙ sym (names-more objects steps here) in (
      subst (λ l. g.D.RenderNamed.is_page what l c.add_step.new.page)
          (ap (λ n. named_visits objects [] steps ++ named_visit n here ∷ []) (ap (map own_of) c.deref.ensures.value ∙ names)
          ∙ sym (named-more objects [] steps here))
          (adds (named_visits objects [] steps) before told made.0),
      names,
    ))
    c.add_step.ensures
