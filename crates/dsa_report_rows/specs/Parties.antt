-- Parties of which a check tells something, and what it tells, as the rows have it.
use Rattle.std.specs.Prelude.{ℕ, List, [], ◌∷◌, codes, flat_map, map, true, None, Some, String}
use Rattle.std.specs.declared.alloc.Global.{Global}
use Rattle.serde_json.specs.Data.{Data, null}
use Rattle.dsa_scenario.specs.Worked.{Fields, object_of, whole}
use Rattle.dsa_scenario.specs.declared.faults.ScenarioFault.{ScenarioFault, TheVariants.{BadParties}}
use Rattle.dsa_plans.specs.Worked.{listing}
use Rattle.dsa_check.specs.declared.finding.Aim.TheVariants.{Value}
use Rattle.dsa_party_check.specs.declared.complaint.Inside.{Inside, TheVariants.{All}}
use Rattle.dsa_party_check.specs.declared.complaint.Subject.{Subject, TheVariants.{Parties}}
use Rattle.dsa_party_check.specs.declared.remarks.PartyRemark.{PartyRemark}
use Rattle.dsa_party_check.specs.{Complaints.{Complained, Flawed}, WorkedParties.{places_told, reasons_told}}

-- those of all flaws
abbrev pub reasons_found : List Flawed → List (List ℕ)
reasons_found flaws = flat_map (λ flaw. reasons_told flaw.complaints) flaws

-- what is told of each flaw, with the part that it is of
abbrev pub places_found : List Flawed → List (ScenarioFault × Subject × List (Inside × List ℕ))
places_found flaws = map (λ flaw. (flaw.fault, flaw.subject, places_told flaw.complaints)) flaws

-- parties of this engine alone
abbrev pub of_engines : ℕ → Fields
of_engines engine = (codes "parties", object_of ((codes "engines", listing (whole engine ∷ [])) ∷ [])) ∷ []

-- keys that any step may have
abbrev pub common_fields : Fields
common_fields = (codes "as", null) ∷ (codes "when", null) ∷ (codes "if", null) ∷ (codes "note", null) ∷ []

-- a key that nothing reads and that is not told as it stands
abbrev pub odd_field : List ℕ × Data
odd_field = (codes "\n", null)

abbrev pub unplain_key_text : List ℕ
unplain_key_text = codes "a key that is long or not plain is no key here"

-- a warning of the object `parties`, at the second character of a document
abbrev pub remark_because : String Global → PartyRemark
remark_because reason = record {
  is_warning = true;
  fault = BadParties;
  subject = Parties;
  complaint = record { inside = All; aim = Value; name = None; reason = reason };
  spot = Some (record { at = 1; line = 1; column = 2 });
}
