use Rattle.dsa_named_lines.proofs.lines.names_in.Goals as goal
use Rattle.std.proofs.Common.{◌≡◌, ◌∙◌, ◌==◌, ◌||◌, filter, map}
use Rattle.std.proofs.lemmas.Result.{IfOk-weaker}
use Rattle.std.specs.List.{list_any}
use Rattle.dsa_chosen.specs.Selected.{is_about}
use Rattle.dsa_named.specs.Names.{Own, own_of}
use Rattle.dsa_named_lines.specs.Lines.{named_in}
use Rattle.dsa_named_lines.proofs.Mentioned.{same-names}

pub returns : goal.returns
returns g c =
    let names = map own_of c.args.names.now in
    let entry = c.args.entry.now in
    let s = c.args.device.now.state in
    IfOk-weaker c.names_about.result
    (λ found. map own_of found.items ≡ filter (λ (own : Own). is_about own.0 entry c.fates.result.now
    || list_any (λ other. other == own.0) c.deref.result.now) names)
    (λ found. map own_of found.items ≡ named_in names entry s)
    (λ found. same-names names entry s c.fates.result.now c.deref.result.now (map own_of found.items) c.fates.ensures
    (c.deref.ensures.value ∙ c.in_ok-told.ensures))
    c.names_about.ensures
