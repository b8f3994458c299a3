use Rattle.dsa_report_rows.proofs.party_reports.reports_on_parties.Goals as goal
use Rattle.std.proofs.Common.{◌≡◌, None, Some, inl, inr, refl, ⊎_elim}
use Rattle.dsa_scenario.specs.declared.faults.ScenarioFault.TheVariants.{BadParty}

pub returns-clause-remarked : goal.returns-clause-remarked
returns-clause-remarked c check bytes text document is = is.remarked

pub returns-clause-lines : goal.returns-clause-lines
returns-clause-lines c check bytes text document is = is.lines

pub returns-clause-first : goal.returns-clause-first
returns-clause-first c check bytes text document is = is.first

pub returns-clause-all : goal.returns-clause-all
returns-clause-all c bytes wrong odd remarks are = are.all

pub returns-clause-placed : goal.returns-clause-placed
returns-clause-placed c bytes wrong odd remarks are = are.placed

pub returns-clause-no_json : goal.returns-clause-no_json
returns-clause-no_json c check bytes has = inl (has, refl, refl)

pub returns-clause-json : goal.returns-clause-json
returns-clause-json c check bytes text document json is = inr (document, json, is)

pub returns-clause-one : goal.returns-clause-one
returns-clause-one c check bytes text is =
    ⊎_elim (λ has. inl (has.0, has.2)) (λ it. inr (it.0, (it.1, it.2))) is

pub returns-clause-no_fault : goal.returns-clause-no_fault
returns-clause-no_fault c check bytes text i is =
    ⊎_elim (λ has. let none : Some (BadParty i) ≡ None = has.1 in absurd cc) (λ it. (it.0, (it.1, it.2))) is
