use Rattle.dsa_scenario.proofs.script.read_part.Goals as goal
use Rattle.std.proofs.Common.{◌∙◌, option_map, sym}
use Rattle.dsa_scenario.proofs.Tokens.{capacity_part, caps_part, items_of, other_part, steps_part}

pub returns-in_ok-parts-in-caps : goal.returns-in_ok-parts-in-caps
returns-in_ok-parts-in-caps c some =
    let before = c.args.parts.now in
    caps_part c.args.key.now c.args.reader.now c.read_caps.new.reader before.caps c.in_ok-parts-in-caps.field-0
    before.capacity (option_map items_of before.actions) c.in-caps.is c.in_ok-parts-in-caps.ensures
    (sym c.is_some.ensures ∙ some)

pub returns-in-capacity : goal.returns-in-capacity
returns-in-capacity c some =
    let before = c.args.parts.now in
    capacity_part c.args.key.now c.args.reader.now c.read_number-parts.new.reader before.caps before.capacity
    c.read_number-parts.result (option_map items_of before.actions) c.in-capacity.is c.read_number-parts.ensures.read
    c.read_number-parts.ensures.fits (sym c.is_some-in-capacity.ensures ∙ some)

pub returns-in_ok-parts-in-steps : goal.returns-in_ok-parts-in-steps
returns-in_ok-parts-in-steps c some =
    let before = c.args.parts.now in
    steps_part c.args.key.now c.args.reader.now c.read_list.new.reader before.caps before.capacity
    (option_map items_of before.actions) c.in_ok-parts-in-steps.field-0 c.in-steps.is c.in_ok-parts-in-steps.ensures
    (sym c.is_some-in-steps.ensures ∙ some)

pub returns-in_default : goal.returns-in_default
returns-in_default c some =
    let before = c.args.parts.now in
    other_part c.args.key.now c.args.reader.now c.read_leaf.new.reader before.caps before.capacity
    (option_map items_of before.actions) c.read_leaf.result (λ e. c.in_default.not-caps (sym e))
    (λ e. c.in_default.not-capacity (sym e)) (λ e. c.in_default.not-steps (sym e)) c.read_leaf.ensures
    (sym c.is_some-in_default.ensures ∙ some)
