use Rattle.dsa_conform.proofs.observed.first_unread.Goals as goal
use Rattle.std.proofs.Common.{◌≡◌, [], refl, false, rules, arith}
use Rattle.std.specs.Prelude.{is_none}
use Rattle.dsa_scenario.specs.declared.actions.Action.{Action}
use Rattle.dsa_conform.specs.{declared.observed.Observed.{Observed}, Seen.{seen_as}}
use Rattle.dsa_conform.proofs.Objects.{read_next}
use Rattle.std.proofs.lemmas.Grind.{common_steps}

pub loop-i-init : goal.loop-i-init
loop-i-init c = ([], refl)

pub loop-i-preserved : goal.loop-i-preserved
loop-i-preserved c =
    let read : is_none c.parse_step.result ≡ false = search (rules, c.is_none.ensures, c.if-is_none.false) in
    read_next (λ (o : Action × Observed). (o.0, seen_as o.1)) c.args.steps.now c.loop-i.i c.index-steps-i.result
    c.parse_step.result c.loop-i-test.true c.index-steps-i.is c.parse_step.ensures
    read c.loop-i.invariant

pub returns : goal.returns
returns = grind (arith, common_steps)
