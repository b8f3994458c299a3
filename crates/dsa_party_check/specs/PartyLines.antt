-- The lines that are told of parties and questions.
use Rattle.dsa_party_check.specs.declared.complaint.Subject.TheVariants as subject
use Rattle.dsa_party_check.specs.declared.complaint.Inside.TheVariants as inside
use Rattle.std.specs.Prelude.{ℕ, Bool, List, [], ◌∷◌, ◌++◌, codes, decimal, Option, Some, None}
use Rattle.dsa_scenario.specs.declared.{actions.StepKind.{StepKind}, faults.ScenarioFault.{ScenarioFault}}
use Rattle.dsa_scenario.specs.declared.faults.ScenarioFault.TheVariants.{BadParty, BadQuestion}
use Rattle.dsa_scenario.specs.Actions.{kind_text}
use Rattle.dsa_questions.specs.Reading.{key_of}
use Rattle.dsa_check.specs.declared.places.Spot.{Spot}
use Rattle.dsa_check.specs.Lines.{warning_mark}
use Rattle.dsa_party_check.specs.declared.complaint.{Inside.{Inside}, Subject.{Subject}}
use Rattle.dsa_party_check.specs.Complaints.{Complained}

-- a place (profile)
abbrev pub place_text : Option Spot → List ℕ
place_text None = []
place_text (Some spot) =
    codes "line " ++ (decimal spot.line ++ (codes ", column " ++ (decimal spot.column ++ codes ", ")))

-- which of its list a subject is
abbrev pub seat_text : Subject → List ℕ
seat_text (subject.Client place) = codes " (client " ++ (decimal place ++ codes ")")
seat_text (subject.Administrator place) = codes " (admin " ++ (decimal place ++ codes ")")
seat_text (subject.Question kind place) = codes " (" ++ (key_of kind ++ (codes " " ++ (decimal place ++ codes ")")))
seat_text _ = []

-- the part that has the fault
abbrev pub part_of_fault : ScenarioFault → List ℕ
part_of_fault (BadParty i) = codes "party " ++ decimal i
part_of_fault (BadQuestion i) = codes "question " ++ decimal i
part_of_fault fault = codes "parties"

abbrev pub kind_words : Option StepKind → List ℕ
kind_words None = []
kind_words (Some kind) = codes " (" ++ (kind_text kind ++ codes ")")

abbrev pub inside_text : Inside → List ℕ
inside_text inside.All = []
inside_text (inside.Step step kind) = codes ", step " ++ (decimal step ++ kind_words kind)
inside_text (inside.Member step kind member) =
    codes ", step " ++ (decimal step ++ (kind_words kind ++ (codes ", member " ++ decimal member)))

-- where it is
abbrev pub where_text : ScenarioFault → Subject → Inside → Option Spot → List ℕ
where_text fault subject inside spot =
    place_text spot ++ part_of_fault fault ++ seat_text subject ++ inside_text inside

-- a line (profile)
abbrev pub complaint_line : Bool → ScenarioFault → Subject → Complained → Option Spot → List ℕ
complaint_line is_warning fault subject complaint spot =
    warning_mark is_warning ++ where_text fault subject complaint.inside spot ++ codes ": " ++ complaint.reason
    ++ codes "\n"
