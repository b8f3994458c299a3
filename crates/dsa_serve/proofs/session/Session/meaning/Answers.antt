use Rattle.dsa_serve.proofs.session.Session.meaning.Goals as goal
use Rattle.serde_json.specs.{View.{view}}
use Rattle.dsa_serve.proofs.Asking.{within_shallow}

pub meaning_of-requires : goal.meaning_of-requires
meaning_of-requires g c =
    within_shallow (view c.args.value.now) (view c.in-Some-step_within.step.now) c.requires
    c.in-Some-step_within.ensures
