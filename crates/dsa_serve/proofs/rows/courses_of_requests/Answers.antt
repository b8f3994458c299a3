use Rattle.dsa_serve.proofs.rows.courses_of_requests.Goals as goal
use Rattle.std.proofs.Common.{◌≡◌, ℕ, Option, refl, ap, arith, length}
use Rattle.std.specs.Prelude.{option_map, unwrap_or}
use Rattle.std.proofs.lemmas.Bool.{false≢true}
use Rattle.dsa_device.specs.Running.{Running}
use Rattle.dsa_serve.proofs.RowDialogues.{led}

pub returns-clause-step : goal.returns-clause-step
returns-clause-step c = (led refl refl refl, tt)

pub returns-clause-step_behind : goal.returns-clause-step_behind
returns-clause-step_behind c = (led refl refl refl, tt)

pub returns-clause-step_as_if_before : goal.returns-clause-step_as_if_before
returns-clause-step_as_if_before c is = false≢true (ap (λ (d : Running). d.anew) is.0.before)

pub returns-clause-other_number : goal.returns-clause-other_number
returns-clause-other_number c is =
    let number = is.0.number_is in
    absurd cc

-- how many fates a device has, if there is one
abbrev fates_in : Option Running → ℕ
fates_in o = unwrap_or (option_map (λ (d : Running). length d.state.work.fates) o) 0

pub returns-clause-led_elsewhere : goal.returns-clause-led_elsewhere
returns-clause-led_elsewhere c is =
    let counts : 1 ≡ 2 = ap fates_in is.0.leads in
    omega (arith, counts)

pub returns-clause-no_step : goal.returns-clause-no_step
returns-clause-no_step c is = is

pub returns-clause-step_too_many : goal.returns-clause-step_too_many
returns-clause-step_too_many c is = is
