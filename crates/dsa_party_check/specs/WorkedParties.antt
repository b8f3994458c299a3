-- Documents and complaints that the worked rows speak of.
use Rattle.std.specs.Prelude.{ℕ, List, [], ◌∷◌, ◌++◌, map, codes, Some}
use Rattle.serde_json.specs.Data.{Data}
use Rattle.dsa_scenario.specs.declared.faults.ScenarioFault.{ScenarioFault}
use Rattle.dsa_scenario.specs.Worked.{Fields, object_of}
use Rattle.dsa_plans.specs.Worked.{listing}
use Rattle.dsa_questions.specs.Stating.{Nameable}
use Rattle.dsa_check.specs.declared.finding.Aim.TheVariants.{Value}
use Rattle.dsa_check.specs.declared.places.Spot.{Spot}
use Rattle.dsa_check.specs.Worked.{right_document}
use Rattle.dsa_party_check.specs.declared.complaint.{Inside.{Inside}, Subject.{Subject, TheVariants.{Parties}}}
use Rattle.dsa_party_check.specs.Complaints.{Complained, Flawed}

-- what is told, each with the part that it is of
abbrev pub places_told : List Complained → List (Inside × List ℕ)
places_told complaints = map (λ complaint. (complaint.inside, complaint.reason)) complaints

-- the reasons alone
abbrev pub reasons_told : List Complained → List (List ℕ)
reasons_told complaints = map (λ complaint. complaint.reason) complaints

-- the faults and the subjects of flaws
abbrev pub faults_found : List Flawed → List (ScenarioFault × Subject)
faults_found flaws = map (λ flaw. (flaw.fault, flaw.subject)) flaws

-- a document of the smallest device, without steps of its own, with these further keys
abbrev pub beside : Fields → Data
beside more = object_of (more ++ right_document)

-- the same with these clients and administrators
abbrev pub asked_with : List Data → List Data → Fields → Data
asked_with clients administrators more = beside ((
  codes "parties",
  object_of ((codes "clients", listing clients) ∷ (codes "admins", listing administrators) ∷ []),
)
    ∷ more)

-- something odd at a key
abbrev pub some_complaint : Inside → Complained
some_complaint inside = record { inside = inside; aim = Value; name = Some (codes "k"); reason = codes "odd" }

-- a flaw of this fault
abbrev pub flaw_like : ScenarioFault → Flawed
flaw_like fault = record { fault = fault; subject = Parties; complaints = [] }

-- a place in a text
abbrev pub third_place : Spot
third_place = record { at = 40; line = 3; column = 16 }

-- what may be named of two entries with one label, of two acts with one, and of no administrator
abbrev pub names_of_twins : Nameable
names_of_twins = record {
  labels = codes "twin" ∷ codes "x" ∷ codes "twin" ∷ [];
  acts = codes "drain" ∷ codes "drain" ∷ [];
  queues = 1;
  clients = 1;
  administrators = 0;
}
