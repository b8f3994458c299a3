use Rattle.dsa_family.proofs.axes.axes_said.Goals as goal
use Rattle.dsa_family.proofs.axes.axes_said.Goals.{else-branch-via-else-branch}
use Rattle.dsa_family.proofs.axes.axes_said.Goals.{else-branch-via-then-branch+else-is_some}
use Rattle.std.proofs.Common.{List, Some, ap, map, sym, ◌∙◌, true, false}
use Rattle.std.specs.List.{list_all}
use Rattle.serde_json.specs.View.{items_view, view}
use Rattle.dsa_family.specs.declared.axes.Axis.{Axis}
use Rattle.dsa_family.specs.{Axes.{has_place, worlds_of}, Told.{varied_as}}
use Rattle.dsa_family.proofs.Counts.{few-by, fits, if_few, lacks_place, none_said, some_said, too_many}

pub returns-in_default-2-clause-said : goal.returns-in_default-2-clause-said
returns-in_default-2-clause-said c =
    none_said (view c.args.vary.now) (view c.args.base.now) c.as_slice.result.now
    (sym c.in-Some.ensures ∙ ap (λ xs. Some (items_view xs)) (sym c.as_slice.ensures.value))
    (rw c.in_default-2.is at (sym c.in_ok-axes.ensures.said))

pub returns-then-is_some-clause-said : goal.returns-then-is_some-clause-said
returns-then-is_some-clause-said c =
    let axes = map varied_as c.in-Some-2.axes.items in
    let base = view c.args.base.now in
    fits base axes
    (ap (λ (xs : List Axis). list_all (has_place base) (map varied_as xs)) (sym c.as_slice-2.ensures.value)
    ∙ sym c.in_ok-has_places.ensures ∙ c.if-branch.true)
    (few-by (worlds_of axes) c.worlds_of.result true
    (c.worlds_of.ensures
    ∙ ap (λ (xs : List Axis). if_few (worlds_of (map varied_as xs))) c.as_slice-then-branch.ensures.value)
    (sym c.is_some.ensures ∙ c.if-is_some.true))
    ∙ some_said (view c.args.vary.now) base c.as_slice.result.now axes
    (sym c.in-Some.ensures ∙ ap (λ xs. Some (items_view xs)) (sym c.as_slice.ensures.value))
    (rw c.in-Some-2.is at (sym c.in_ok-axes.ensures.said))

pub returns-clause-said : goal.returns-clause-said
returns-clause-said c =
    let axes = map varied_as c.in-Some-2.axes.items in
    let base = view c.args.base.now in
    let said = some_said (view c.args.vary.now) base c.as_slice.result.now axes
    (sym c.in-Some.ensures ∙ ap (λ xs. Some (items_view xs)) (sym c.as_slice.ensures.value))
    (rw c.in-Some-2.is at (sym c.in_ok-axes.ensures.said)) in
    elim c.else-branch.branch [
      | else-branch-via-then-branch+else-is_some w ↦ too_many base axes
          (few-by (worlds_of axes) w.worlds_of.result false
          (w.worlds_of.ensures
          ∙ ap (λ (xs : List Axis). if_few (worlds_of (map varied_as xs))) w.as_slice-then-branch.ensures.value)
          (sym w.is_some.ensures ∙ w.if-is_some.false))
          ∙ said
      | else-branch-via-else-branch w ↦ lacks_place base axes
          (ap (λ (xs : List Axis). list_all (has_place base) (map varied_as xs)) (sym c.as_slice-2.ensures.value)
          ∙ sym c.in_ok-has_places.ensures ∙ w.if-branch.false)
          ∙ said
    ]
