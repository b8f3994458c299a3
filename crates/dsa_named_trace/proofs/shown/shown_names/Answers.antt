use Rattle.dsa_named_trace.proofs.shown.shown_names.Goals as goal
use Rattle.std.proofs.Common.{◌≡◌, ◌∙◌, ◌||◌, ap, filter, map}
use Rattle.std.proofs.lemmas.Result.{IfOk-weaker}
use Rattle.std.specs.{List.{list_any}, Prelude.{◌==◌}}
use Rattle.dsa_chosen.specs.Selected.{is_about}
use Rattle.dsa_named.specs.Names.{Own, own_of}
use Rattle.dsa_named_trace.specs.Shown.{shown_names}

pub returns : goal.returns
returns g c =
    let names = map own_of c.args.names.now in
    let entry = c.args.entry.now in
    let now = c.args.device.now in
    IfOk-weaker c.names_about.result
    (λ found. map own_of found.items ≡ filter (λ (own : Own). is_about own.0 entry c.fates.result.now
    || list_any (λ other. other == own.0) c.deref.result.now) names)
    (λ found. map own_of found.items ≡ shown_names c.args.form names entry now)
    (λ found is. is
    ∙ ap (λ l. filter (λ (own : Own). is_about own.0 entry l || list_any (λ other. other == own.0) c.deref.result.now)
    names) c.fates.ensures
    ∙ ap (λ l. filter (λ (own : Own). is_about own.0 entry now.state.work.fates
    || list_any (λ other. other == own.0) l) names)
    (c.deref.ensures.value ∙ c.in_ok-listed.ensures))
    c.names_about.ensures
