use Rattle.dsa_explain.proofs.buffers.kept_for.Goals as goal
use Rattle.std.proofs.Common.{◌∙◌, refl, sym, ap, arith}
use Rattle.std.proofs.lemmas.Bool.{ltb-true}
use Rattle.dsa_base.proofs.{Tables.{when-some}, NumberLists.{get_or-each}}
use Rattle.dsa_regs.specs.{declared.Caps.{Caps}, Config.{group_at}}
use Rattle.dsa_book.specs.Work.{used}

pub returns : goal.returns
returns g c =
    let w = c.args.device.now.state.work in
    let there = when-some _ (used w c.args.group) c.in_ok-used.used (sym c.used.ensures ∙ c.in_ok-used.was) in
    let config = when-some _ (group_at w.setup.groups c.args.group) c.in_ok-config.config
    (sym c.group_config.ensures ∙ c.in_ok-config.was) in
    let same = ap (λ (caps : Caps). caps.groups) c.state_is_replay.ensures.lawful.well_formed.shape.same_caps in
    let at = get_or-each (used w) w.setup.caps.groups c.args.group 0
    (omega (arith, same, ltb-true _ _ there.0)) in
    rw (there.0, c.kept.ensures, at, there.1, config.1) refl
