use Rattle.dsa_conform.proofs.rows.followed.Goals as goal
use Rattle.std.{proofs.Common.{◌≡◌, map, subst, refl, ap, arith}, specs.{Prelude.{Contains}, Fmt.{digits}}}
use Rattle.dsa_device.specs.Running.{running_at_first}
use Rattle.dsa_scenario.specs.{Lines.{record_text}, Worked.{smallest_caps}}
use Rattle.dsa_conform.specs.Worked.{smallest_device_at_first}
use Rattle.dsa_conform.proofs.{RowRuns.{nothing, is_nothing}, RowTakes.{none_allowed}}

pub returns-clause-step : goal.returns-clause-step
unfolding digits
returns-clause-step c = (refl, refl, refl)

pub returns-clause-refused : goal.returns-clause-refused
unfolding digits
returns-clause-refused c = (refl, refl, refl)

pub returns-clause-others : goal.returns-clause-others
unfolding digits
returns-clause-others c = (
  λ is. let shown = is.2 in absurd cc,
  λ is. let asked = is.0 in absurd cc,
  λ is. let none = is.1 in absurd cc,
)

pub returns-clause-another_state : goal.returns-clause-another_state
unfolding digits
returns-clause-another_state c is =
    let other : (running_at_first smallest_caps 8).capacity ≡ smallest_device_at_first.capacity =
    ap (λ d. d.capacity) is.1 in
    absurd (omega (arith, other))

pub returns-clause-shown : goal.returns-clause-shown
unfolding digits
returns-clause-shown c v is =
    let shown = is.1 nothing is_nothing in
    absurd cc

pub returns-clause-untold : goal.returns-clause-untold
returns-clause-untold c v items is =
    let among = subst (λ l. Contains (map record_text l) (record_text nothing)) items (is.0.all nothing is_nothing) in
    absurd (omega (arith, among.1))

pub returns-clause-none_allowed : goal.returns-clause-none_allowed
returns-clause-none_allowed c v items is = none_allowed is.2.0 is.2.1
