use Rattle.dsa_check.proofs.reasons.field_reason.Goals as goal
use Rattle.std.proofs.Common.{◌∙◌, map, refl, sym}
use Rattle.serde_json.specs.View.{view}
use Rattle.dsa_scenario.specs.Fields.{row_of_field}
use Rattle.dsa_check.proofs.Told.{missing_at, misspelled_at, expandable_at, unfit_at}

pub returns-in-Some-3-clause-so : goal.returns-in-Some-3-clause-so
returns-in-Some-3-clause-so c =
    misspelled_at _ _ _ _ _ _ refl refl c.in-None.ensures (rw c.in-Some-3.is at c.in_ok-found-in-None.ensures.stray)
    (rw c.in-Some-3.is at c.in_ok-found-in-None.ensures.nearest)

pub returns-in-None-2-clause-so : goal.returns-in-None-2-clause-so
returns-in-None-2-clause-so c =
    expandable_at (view c.args.object.now) (map row_of_field c.args.fields.now) c.args.in_caps (row_of_field c.args.field)
    _ refl refl c.in-None.ensures (rw c.in-None-2.is at c.in_ok-found-in-None.ensures.nearest)
    (sym c.expands_missing.ensures ∙ c.if-expands_missing.true)

pub returns-in-None-2-2-clause-so : goal.returns-in-None-2-2-clause-so
returns-in-None-2-2-clause-so c =
    missing_at (view c.args.object.now) (map row_of_field c.args.fields.now) c.args.in_caps (row_of_field c.args.field)
    _ refl refl c.in-None.ensures (rw c.in-None-2-2.is at c.in_ok-found-in-None.ensures.nearest)
    (sym c.expands_missing.ensures ∙ c.if-expands_missing.false)

pub returns-in-Some-2-clause-so : goal.returns-in-Some-2-clause-so
returns-in-Some-2-clause-so c =
    unfit_at (view c.args.object.now) (map row_of_field c.args.fields.now) c.args.in_caps (row_of_field c.args.field) _
    (view c.in-Some.value.now) c.unfit_reason.result c.unfit_reason.ensures refl refl c.in-Some.ensures
