-- What a check tells of a document.
use Rattle.json.specs.Token as token
use Rattle.std.specs.Prelude.{◌≡◌, ℕ, Bool, true, false, List, [], ◌∷◌, ◌++◌, map, flat_map, Option, Some, None}
use Rattle.std.specs.Prelude.{codes}
use Rattle.json.specs.Print.{print}
use Rattle.dsa_scenario.specs.declared.faults.ScenarioFault.{ScenarioFault, TheVariants.{TooLong}}
use Rattle.dsa_check.specs.declared.{checking.Check.{Check}, finding.Finding.{Finding}}
use Rattle.dsa_check.specs.{Findings.{AreFounded}, Judgement.{AreFaultsOf, IsJudged, faults_told}}
use Rattle.dsa_check.specs.{declared.remarks.Remark.{Remark}, Lines.{remark_text}, Remarks.{AreRemarksOf}}
use Rattle.dsa_check.specs.{declared.checking.CheckForm.{CheckForm, TheVariants.{Lines, Json, Source}}, Objects.{object_line}}
use Rattle.dsa_check.specs.Objects.{text_member, part_name, level_name}
use Rattle.dsa_check.specs.Sources.{source_text}
use Rattle.dsa_check.specs.Warnings.{AreWarningsOf, warnings_told}

abbrev pub first_of : List ScenarioFault → Option ScenarioFault
first_of [] = None
first_of (fault ∷ faults) = Some fault

-- the faults that warnings count as, where they count (profile)
abbrev pub faults_warned : Bool → List Finding → List ScenarioFault
faults_warned false warnings = []
faults_warned true warnings = map (λ warning. warning.0) (warnings_told warnings)

-- a remark of these bytes in a form, and all of them
abbrev pub text_in : CheckForm → List ℕ → Remark → List ℕ
text_in Lines bytes remark = remark_text remark
text_in Json bytes remark = object_line remark
text_in (Source is_colored) bytes remark = remark_text remark ++ source_text is_colored bytes remark

abbrev pub report_text : CheckForm → List ℕ → List Remark → List ℕ
report_text form bytes remarks = flat_map (text_in form bytes) remarks

-- ---- a document that is too long (profile)

abbrev pub length_text : List ℕ
length_text = codes "it has more than 1048576 bytes"

-- the report on a document that is too long, of which nothing else is checked: it has no place, and no source line
abbrev pub too_long_text : CheckForm → List ℕ
too_long_text Json = print (token.begin_object ∷ text_member (codes "part") (Some (part_name TooLong))
    ++ text_member (codes "level") (Some (level_name false)) ++ text_member (codes "reason") (Some length_text)
    ++ token.end_object ∷ []) ++ codes "\n"
too_long_text _ = codes "document too long: " ++ length_text ++ codes "\n"

-- ---- the report on any other

-- the text has the lines of all faults of the document, and after them those of all warnings; each line tells what is
-- so of the part that it names, and where. The fault is the first of those that have a line; a warning counts as one
-- in a strict check only. There is none where none counts
pub record IsCheckReportOf (check : Check) (bytes : List ℕ) (fault : Option ScenarioFault) (text : List ℕ) : Type 0
  where
    pub findings : List Finding
    pub all : AreFaultsOf bytes (faults_told findings)
    pub judged : IsJudged bytes (faults_told findings)
    pub told : AreFounded bytes findings
    pub warnings : List Finding
    pub warned : AreWarningsOf bytes warnings
    pub first : fault ≡ first_of (faults_told findings ++ faults_warned check.is_strict warnings)
    pub remarks : List Remark
    pub remarked : AreRemarksOf bytes findings warnings remarks
    pub lines : text ≡ report_text check.form bytes remarks
