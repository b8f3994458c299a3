use Rattle.dsa_check.proofs.reasons.kind_reason.Goals as goal
use Rattle.std.proofs.Common.{refl}
use Rattle.serde_json.specs.View.{view}
use Rattle.dsa_check.proofs.Told.{missing_at, misspelled_at, no_text_kind}

pub returns-in-Some-2 : goal.returns-in-Some-2
returns-in-Some-2 c none = (
  rw (← c.in-None.ensures) refl,
  misspelled_at _ _ _ _ _ _ refl refl c.in-None.ensures (rw c.in-Some-2.is at c.in_ok-found-in-None.ensures.stray)
      (rw c.in-Some-2.is at c.in_ok-found-in-None.ensures.nearest),
)

pub returns-in-None-2 : goal.returns-in-None-2
returns-in-None-2 c none = (
  rw (← c.in-None.ensures) refl,
  missing_at _ _ _ _ _ refl refl c.in-None.ensures (rw c.in-None-2.is at c.in_ok-found-in-None.ensures.nearest) refl,
)

pub returns-in-None-as_str : goal.returns-in-None-as_str
returns-in-None-as_str c none =
    no_text_kind (view c.args.step.now) _ (view c.in-Some.value.now) _ c.unfit_reason.ensures refl refl c.in-Some.ensures
    c.in-None-as_str.ensures
