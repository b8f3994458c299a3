use Rattle.dsa_family.proofs.axes.axis_said.Goals as goal
use Rattle.std.proofs.Common.{Some, ap, sym, ◌∙◌, arith}
use Rattle.serde_json.specs.View.{items_view, view}
use Rattle.dsa_family.proofs.Counts.{axis_is}

pub returns-clause-said : goal.returns-clause-said
returns-clause-said c =
    axis_is (view c.args.item.now) (view c.in_ok-get.field-0.now) (view c.in_ok-get-2.field-0.now) c.in_ok-at.at.now
    c.as_slice-values.result.now (sym c.in_ok-get.ensures) (sym c.in_ok-at.ensures)
    (sym c.in_ok-get-2.ensures)
    (sym c.in_ok-as_array.ensures ∙ ap (λ xs. Some (items_view xs)) (sym c.as_slice-values.ensures.value)) (grind arith)
