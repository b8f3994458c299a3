use Rattle.dsa_cli.proofs.words.write_text.Goals as goal
use Rattle.std.proofs.Common.{◌≡◌, Bor, List, ℕ, Some, Err, option_map, ap, inl, inr, rules, subst}
use Rattle.dsa_scenario.specs.declared.faults.ScenarioFault.TheVariants.{TooLong}
use Rattle.dsa_scenario.specs.{Scenario.{HasFault}, Watched.{watched_contents}}
use Rattle.dsa_cli.proofs.TooLong.{told_too_long}

pub returns-in-TooLong-Some-clause-failed : goal.returns-in-TooLong-Some-clause-failed
returns-in-TooLong-Some-clause-failed g c one =
    let at = c.in-TooLong-Some.is-0 in
    let long : c.in-Err.fault ≡ TooLong = cc in
    let kept : c.render_input.new.writer ≡ c.args.out.now = c.in-Err.ensures.nothing (λ write. cc) in
    let has : HasFault (g.R.Read.remaining c.args.reader.now) (g.R.Read.remaining c.render_input.new.reader) TooLong =
    subst (λ f. HasFault (g.R.Read.remaining c.args.reader.now) (g.R.Read.remaining c.render_input.new.reader) f) long
    c.in-Err.ensures.fault in
    let is : option_map (λ (text : Bor (List ℕ)). text.now) c.args.if_too_long ≡ Some c.in-TooLong-Some.text.now =
    search rules in
    told_too_long (g.D.Render.is_rendering c.args.what.now) _ _ _ _ (watched_contents g.O.Write.contents) _ _ _ _ _ is
    has kept c.write_too_long.ensures.ended

pub returns-in_default-clause-failed : goal.returns-in_default-clause-failed
returns-in_default-clause-failed g c one = (
  c.in-Err.fault,
  inr (
    (c.in-Err.ensures.fault, c.in-Err.ensures.nothing, λ e. inl (c.in-Err.ensures.prefix (ap Err e))),
    (λ long. search rules),
    λ e. c.in-Err.ensures.writer.refused.0 (ap Err e),
  ),
  c.tell_reader-in_default.ensures.line,
)
