-- What is told of the parties and questions of a document: one thing each, and where it is.
use Rattle.std.specs.Prelude.{◌≡◌, ℕ, List, [], ◌∷◌, ◌++◌, map, codes, Option, Some, None, option_map, string_bytes}
use Rattle.dsa_scenario.specs.declared.faults.ScenarioFault.{ScenarioFault, TheVariants.{TooManyParties}}
use Rattle.dsa_check.specs.declared.finding.Aim.{Aim, TheVariants.{Whole}}
use Rattle.dsa_party_check.specs.declared.complaint.{Inside.{Inside, TheVariants.{All}}, Subject.{Subject}}
use Rattle.dsa_party_check.specs.declared.complaint.{Complaint.{Complaint}, Flaw.{Flaw}}

-- what is wrong or odd: in which part of a subject, what there it points to, the key, and the reason in words
pub record Complained : Type 0 where
  pub inside : Inside
  pub aim : Aim
  pub name : Option (List ℕ)
  pub reason : List ℕ

abbrev pub complained : Complaint → Complained
complained complaint = record {
  inside = complaint.inside;
  aim = complaint.aim;
  name = option_map string_bytes complaint.name;
  reason = string_bytes complaint.reason;
}

-- what is wrong or odd with one subject, by the fault that it is or may count as
pub record Flawed : Type 0 where
  pub fault : ScenarioFault
  pub subject : Subject
  pub complaints : List Complained

abbrev pub flawed : Flaw → Flawed
flawed flaw =
    record { fault = flaw.fault; subject = flaw.subject; complaints = map complained flaw.complaints.items }

-- these are told besides
abbrev pub Complains : List Complaint → List Complaint → List Complained → Type 0
Complains old new more = map complained new ≡ map complained old ++ more

abbrev pub Finds : List Flaw → List Flaw → List Flawed → Type 0
Finds old new more = map flawed new ≡ map flawed old ++ more

-- a subject of which nothing is told has no flaw
abbrev pub flaws_of : ScenarioFault → Subject → List Complained → List Flawed
flaws_of fault subject [] = []
flaws_of fault subject (complaint ∷ more) =
    record { fault = fault; subject = subject; complaints = complaint ∷ more } ∷ []

-- ---- where nothing finer is known (profile)

abbrev pub plain_complaint : Inside → List ℕ → Complained
plain_complaint inside reason = record { inside = inside; aim = Whole; name = None; reason = reason }

abbrev pub general_reason : List ℕ
general_reason = codes "not understood"

-- something is told of what cannot be read
abbrev pub or_general : Inside → List Complained → List Complained
or_general inside [] = plain_complaint inside general_reason ∷ []
or_general inside (complaint ∷ more) = complaint ∷ more

abbrev pub reason_of_fault : ScenarioFault → List ℕ
reason_of_fault TooManyParties =
    codes "more than 16 clients, 8 administrators or 256 entries, members included"
reason_of_fault fault = general_reason

-- the flaw of which nothing but the fault is known
abbrev pub flaw_of_fault : Subject → ScenarioFault → Flawed
flaw_of_fault subject fault = record {
  fault = fault;
  subject = subject;
  complaints = plain_complaint All (reason_of_fault fault) ∷ [];
}
