use Rattle.dsa_draw.proofs.phases.add_phases.Goals as goal
use Rattle.std.proofs.Common.{◌≡◌, ◌++◌, ◌∙◌, [], ap, cond, string_bytes}
use Rattle.std.proofs.lemmas.Result.{on_ok_weaker}
use Rattle.dsa_draw.specs.Bands.{is_same_phase, phase_in, stretch_text}
use Rattle.dsa_draw.proofs.RowTexts.{stretched, stretched_at_end}

pub loop-moment-preserved : goal.loop-moment-preserved
loop-moment-preserved c =
    let stretch = c.loop-moment.stretch in
    let added : string_bytes c.add_change.new.text ≡ string_bytes c.loop-moment.text
    ++ cond (is_same_phase stretch.phase (phase_in c.args.holder c.moment-item.result)) []
    (stretch_text c.args.holder c.args.y c.loop-moment.step stretch) =
    rw (← c.phase_in-phase.ensures) c.in_ok-add_change.ensures in
    rw (c.saturating_add-step.ensures, c.stretch_after-stretch.ensures, c.phase_in-phase.ensures)
    (stretched c.args.holder c.args.y c.args.moments.now c.loop-moment.moment-index c.moment-item.result
    c.loop-moment.step stretch _ _ _ c.loop-moment-test.true c.moment-item.is added c.loop-moment.invariant)

pub returns : goal.returns
returns c =
    on_ok_weaker c.add_stretch.result
    (λ added.
    stretched_at_end c.args.holder c.args.y c.args.moments.now c.loop-moment.moment-index c.loop-moment.step
    c.loop-moment.stretch _ _ _ c.loop-moment-test.false added c.loop-moment.invariant)
    c.add_stretch.ensures
