-- The remarks of a check as JSON objects, one a line.
use Rattle.std.specs.Prelude.{◌≡◌, ℕ, Bool, true, false, List, [], ◌∷◌, ◌++◌, codes, decimal, Option, Some, None}
use Rattle.std.specs.Prelude.{option_map, option_and_then}
use Rattle.json.specs.Token as token
use Rattle.json.specs.{Token.{Token}, Print.{print}}
use Rattle.dsa_scenario.specs.declared.faults.ScenarioFault.{ScenarioFault, TheVariants.{NotJson, BadDocument, BadStep}}
use Rattle.dsa_scenario.specs.declared.faults.ScenarioFault.TheVariants.{BadCaps, BadCapacity}
use Rattle.dsa_scenario.specs.Actions.{kind_text}
use Rattle.dsa_check.specs.declared.{finding.Finding.{Finding}, finding.Reason.{Reason}, places.Spot.{Spot}}
use Rattle.dsa_check.specs.declared.remarks.Remark.{Remark}
use Rattle.dsa_check.specs.{Lines.{known_text}, Remarks.{name_of}}

-- a member, where there is such a number or such a text
abbrev pub number_member : List ℕ → Option ℕ → List Token
number_member key None = []
number_member key (Some n) = token.key key ∷ token.number (decimal n) ∷ []

abbrev pub text_member : List ℕ → Option (List ℕ) → List Token
text_member key None = []
text_member key (Some text) = token.key key ∷ token.string text ∷ []

-- ---- what a remark says (profile)

-- the line and the column of its place, or else those of its finding
abbrev pub line_told : Finding → Option Spot → Option ℕ
line_told finding (Some spot) = Some spot.line
line_told finding None = finding.place.line

abbrev pub column_told : Finding → Option Spot → Option ℕ
column_told finding (Some spot) = Some spot.column
column_told finding None = finding.place.column

abbrev pub part_name : ScenarioFault → List ℕ
part_name BadDocument = codes "document"
part_name (BadStep i) = codes "step"
part_name BadCaps = codes "caps"
part_name BadCapacity = codes "capacity"
part_name _ = codes "text"

abbrev pub step_number : ScenarioFault → Option ℕ
step_number (BadStep i) = Some i
step_number _ = None

abbrev pub level_name : Bool → List ℕ
level_name true = codes "warning"
level_name false = codes "fault"

abbrev pub place_members : Finding → Option Spot → List Token
place_members finding spot =
    number_member (codes "line") (line_told finding spot) ++ number_member (codes "column") (column_told finding spot)

abbrev pub part_members : Finding → List Token
part_members finding =
    text_member (codes "part") (Some (part_name finding.fault))
    ++ number_member (codes "step") (step_number finding.fault)
    ++ text_member (codes "kind") (option_map kind_text finding.place.kind)

abbrev pub reason_members : Bool → Option Reason → List Token
reason_members is_warning reason =
    text_member (codes "key") (option_and_then name_of reason)
    ++ text_member (codes "level") (Some (level_name is_warning))
    ++ text_member (codes "reason") (Some (known_text reason))

-- the object of a remark
abbrev pub members_of_remark : Bool → Finding → Option Reason → Option Spot → List Token
members_of_remark is_warning finding reason spot =
    token.begin_object ∷ place_members finding spot ++ part_members finding ++ reason_members is_warning reason
    ++ token.end_object ∷ []

abbrev pub object_of_remark : Remark → List Token
object_of_remark remark =
    members_of_remark remark.is_warning remark.finding.now (option_map (λ r. r.now) remark.reason) remark.spot

abbrev pub object_line : Remark → List ℕ
object_line remark = print (object_of_remark remark) ++ codes "\n"
