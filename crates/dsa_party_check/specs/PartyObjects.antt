-- What is told of parties and questions as JSON objects, one a line.
use Rattle.json.specs.Token as token
use Rattle.dsa_party_check.specs.declared.complaint.Inside.TheVariants as inside
use Rattle.std.specs.Prelude.{ℕ, Bool, List, [], ◌∷◌, ◌++◌, codes, Option, Some, None, option_map}
use Rattle.json.specs.{Token.{Token}, Print.{print}}
use Rattle.dsa_scenario.specs.declared.{actions.StepKind.{StepKind}, faults.ScenarioFault.{ScenarioFault}}
use Rattle.dsa_scenario.specs.declared.faults.ScenarioFault.TheVariants.{BadParty, BadQuestion}
use Rattle.dsa_scenario.specs.Actions.{kind_text}
use Rattle.dsa_check.specs.declared.places.Spot.{Spot}
use Rattle.dsa_check.specs.Objects.{number_member, text_member, level_name}
use Rattle.dsa_party_check.specs.declared.complaint.{Inside.{Inside}, Subject.{Subject}}
use Rattle.dsa_party_check.specs.Complaints.{Complained}

-- ---- what a line says (profile)

abbrev pub spot_members : Option Spot → List Token
spot_members None = []
spot_members (Some spot) =
    number_member (codes "line") (Some spot.line) ++ number_member (codes "column") (Some spot.column)

-- the part that has the fault, with its number
abbrev pub numbered_members : List ℕ → ℕ → List Token
numbered_members part number = text_member (codes "part") (Some part) ++ number_member part (Some number)

abbrev pub members_of_fault : ScenarioFault → List Token
members_of_fault (BadParty i) = numbered_members (codes "party") i
members_of_fault (BadQuestion i) = numbered_members (codes "question") i
members_of_fault fault = text_member (codes "part") (Some (codes "parties"))

abbrev pub step_members : ℕ → Option StepKind → List Token
step_members step kind =
    number_member (codes "step") (Some step) ++ text_member (codes "kind") (option_map kind_text kind)

abbrev pub inside_members : Inside → List Token
inside_members inside.All = []
inside_members (inside.Step step kind) = step_members step kind
inside_members (inside.Member step kind member) = step_members step kind ++ number_member (codes "member") (Some member)

abbrev pub said_members : Bool → Complained → List Token
said_members is_warning complaint = text_member (codes "key") complaint.name
    ++ text_member (codes "level") (Some (level_name is_warning))
    ++ text_member (codes "reason") (Some complaint.reason)

abbrev pub members_of_complaint : Bool → ScenarioFault → Complained → Option Spot → List Token
members_of_complaint is_warning fault complaint spot =
    token.begin_object ∷ spot_members spot ++ members_of_fault fault ++ inside_members complaint.inside
    ++ said_members is_warning complaint ++ token.end_object ∷ []

abbrev pub complaint_object : Bool → ScenarioFault → Complained → Option Spot → List ℕ
complaint_object is_warning fault complaint spot =
    print (members_of_complaint is_warning fault complaint spot) ++ codes "\n"
