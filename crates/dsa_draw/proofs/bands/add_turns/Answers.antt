use Rattle.dsa_draw.proofs.bands.add_turns.Goals as goal
use Rattle.std.proofs.Common.{◌≡◌, ◌+◌, ◌++◌, ◌∙◌, [], ap, cond, drop, string_bytes}
use Rattle.std.proofs.lemmas.Result.{on_ok_weaker}
use Rattle.std.specs.Prelude.{◌==◌}
use Rattle.dsa_draw.specs.Bands.{line_value, level_in, turn_text, turns, levels_of}
use Rattle.dsa_draw.proofs.Turns.{turned, turned_at_end}

pub loop-moment-preserved : goal.loop-moment-preserved
loop-moment-preserved c =
    let scale = c.args.scale in
    let levels = levels_of c.args.band c.args.line c.args.moments.now in
    let is : c.value_of-level.result ≡ line_value c.args.line (level_in c.args.band c.moment-item.result) =
    c.value_of-level.ensures ∙ ap (λ level. line_value c.args.line level) c.level_in.ensures in
    let added : string_bytes c.add_level.new.text ≡ string_bytes c.loop-moment.text
    ++ cond (line_value c.args.line (level_in c.args.band c.moment-item.result) == c.loop-moment.before) []
    (turn_text scale.bottom scale.most c.loop-moment.step c.loop-moment.before
    (line_value c.args.line (level_in c.args.band c.moment-item.result))) =
    rw (← is) c.in_ok-add_level.ensures in
    let on : string_bytes c.add_level.new.text
    ++ turns scale.bottom scale.most c.saturating_add-step.result c.value_of-level.result
    (drop (c.loop-moment.moment-index + 1) levels)
    ≡ string_bytes c.args.text.now ++ turns scale.bottom scale.most 0 0 levels =
    rw (c.saturating_add-step.ensures, is)
    (turned (λ moment. line_value c.args.line (level_in c.args.band moment)) c.args.moments.now
    c.loop-moment.moment-index c.moment-item.result scale.bottom scale.most c.loop-moment.step c.loop-moment.before
    (string_bytes c.loop-moment.text) (string_bytes c.add_level.new.text)
    (string_bytes c.args.text.now ++ turns scale.bottom scale.most 0 0 levels) c.loop-moment-test.true
    c.moment-item.is added c.loop-moment.invariant) in
    on

pub returns : goal.returns
returns c =
    on_ok_weaker c.add_reach.result
    (λ added.
    turned_at_end (λ moment. line_value c.args.line (level_in c.args.band moment)) c.args.moments.now
    c.loop-moment.moment-index c.args.scale.bottom c.args.scale.most c.loop-moment.step c.loop-moment.before _ _ _
    c.loop-moment-test.false added c.loop-moment.invariant)
    c.add_reach.ensures
