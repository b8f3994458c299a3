use Rattle.dsa_formulas.proofs.meeting.add_term.Goals as goal
use Rattle.std.proofs.Common.{◌∙◌, get_or, ap, refl, reverse, sym}
use Rattle.dsa_keys.specs.Key.{key}
use Rattle.dsa_parties.specs.Standing.{stand_of}
use Rattle.dsa_formulas.specs.{Facts.{is_so}, Formulas.{truths_after}}

pub returns-in_ok-negate-in-Not : goal.returns-in_ok-negate-in-Not
returns-in_ok-negate-in-Not g c =
    let so = is_so c.args.script.now (stand_of c.args.places.now)
    (key (λ name. get_or c.args.labels.now name 0) c.args.device.now.state) in
    c.in_ok-negate-in-Not.ensures so ∙ ap (truths_after so (reverse c.args.truths.now.items)) (sym c.in-Not.is)

pub returns-in_ok-join-in-Both : goal.returns-in_ok-join-in-Both
returns-in_ok-join-in-Both g c =
    let so = is_so c.args.script.now (stand_of c.args.places.now)
    (key (λ name. get_or c.args.labels.now name 0) c.args.device.now.state) in
    c.in_ok-join-in-Both.ensures.both refl so
    ∙ ap (truths_after so (reverse c.args.truths.now.items)) (sym c.in-Both.is)

pub returns-in_ok-join-in-Either : goal.returns-in_ok-join-in-Either
returns-in_ok-join-in-Either g c =
    let so = is_so c.args.script.now (stand_of c.args.places.now)
    (key (λ name. get_or c.args.labels.now name 0) c.args.device.now.state) in
    c.in_ok-join-in-Either.ensures.either refl so
    ∙ ap (truths_after so (reverse c.args.truths.now.items)) (sym c.in-Either.is)
