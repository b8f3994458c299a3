use Rattle.dsa_family.proofs.places.with_item_at.Goals as goal
use Rattle.std.proofs.Common.{Some, ap, sym, ◌∙◌, arith}
use Rattle.serde_json.{specs.View.{view}, proofs.Views.{view-Array}}
use Rattle.dsa_family.proofs.Sets.{item-there, past-item}

pub returns-then-number-len : goal.returns-then-number-len
returns-then-number-len c =
    past-item c.args.key.now c.in_ok-number.number (view c.args.value) c.args.items.items (sym c.in_ok-number.ensures)
    (omega (arith, c.if-number-len.true, c.len.ensures))

pub returns : goal.returns
returns c =
    ap Some (view-Array _)
    ∙ item-there c.args.key.now c.in_ok-number.number c.args.value c.args.items.items (sym c.in_ok-number.ensures)
    (omega (arith, c.if-number-len.false, c.len.ensures))
