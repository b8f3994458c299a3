-- What a check tells of a document with parties: of its run, and then of its parties and questions.
use Rattle.std.specs.Prelude.{◌≡◌, ◌⊎◌, ℕ, Bool, true, false, List, [], ◌∷◌, ◌++◌, map, flat_map, codes, Option, Some, None}
use Rattle.std.specs.Prelude.{IfSome}
use Rattle.std.specs.List.{AllByRecursion}
use Rattle.serde_json.specs.{Data.{Data}, Find.{get}}
use Rattle.dsa_scenario.specs.declared.faults.ScenarioFault.{ScenarioFault}
use Rattle.dsa_scenario.specs.Document.{IsJson, IsNoJson}
use Rattle.dsa_check.specs.declared.checking.{Check.{Check}, CheckForm.{CheckForm, TheVariants.{Lines, Json, Source}}}
use Rattle.dsa_check.specs.{Check.{IsCheckReportOf}, Sources.{source_at}}
use Rattle.dsa_party_check.specs.declared.complaint.Subject.{Subject}
use Rattle.dsa_party_check.specs.declared.remarks.PartyRemark.{PartyRemark}
use Rattle.dsa_party_check.specs.Complaints.{Complained, Flawed, complained}
use Rattle.dsa_party_check.specs.{QuestionFlaws.{all_flaws_of}, OddKeys.{odd_at_parties}, Pointing.{IsComplaintAt}}
use Rattle.dsa_party_check.specs.{PartyLines.{complaint_line}, PartyObjects.{complaint_object}}

-- ---- what is remarked

-- a fault or a warning, its part, and one thing that is told of it
abbrev pub SaidOfParties : Type 0
SaidOfParties = Bool × ScenarioFault × Subject × Complained

abbrev pub said_of_parties : PartyRemark → SaidOfParties
said_of_parties remark = (remark.is_warning, remark.fault, remark.subject, complained remark.complaint)

abbrev pub said_of_complaints : Bool → ScenarioFault → Subject → List Complained → List SaidOfParties
said_of_complaints is_warning fault subject complaints =
    map (λ complaint. (is_warning, fault, subject, complaint)) complaints

abbrev pub said_of_flaw : Bool → Flawed → List SaidOfParties
said_of_flaw is_warning flaw = said_of_complaints is_warning flaw.fault flaw.subject flaw.complaints

-- all that is wrong, and after it all that is odd
abbrev pub said_of_flaws : List Flawed → List Flawed → List SaidOfParties
said_of_flaws wrong odd = flat_map (said_of_flaw false) wrong ++ flat_map (said_of_flaw true) odd

-- these remarks are made besides
abbrev pub SaysOfParties : List PartyRemark → List PartyRemark → List SaidOfParties → Type 0
SaysOfParties old new more = map said_of_parties new ≡ map said_of_parties old ++ more

-- a place that is told is that to which the complaint points
abbrev pub IsPartyRemarkPlaced : List ℕ → PartyRemark → Type 0
IsPartyRemarkPlaced bytes remark =
    IfSome remark.spot (IsComplaintAt bytes remark.subject (complained remark.complaint))

-- the remarks are of all that is wrong and odd, each placed where it points to
pub record ArePartyRemarks (bytes : List ℕ) (wrong odd : List Flawed) (remarks : List PartyRemark) : Type 0 where
  pub all : map said_of_parties remarks ≡ said_of_flaws wrong odd
  pub placed : AllByRecursion (IsPartyRemarkPlaced bytes) remarks

-- ---- the report

abbrev pub party_remark_line : PartyRemark → List ℕ
party_remark_line remark =
    complaint_line remark.is_warning remark.fault remark.subject (complained remark.complaint) remark.spot

-- a remark of these bytes in a form
abbrev pub party_text_in : CheckForm → List ℕ → PartyRemark → List ℕ
party_text_in Lines bytes remark = party_remark_line remark
party_text_in Json bytes remark =
    complaint_object remark.is_warning remark.fault (complained remark.complaint) remark.spot
party_text_in (Source is_colored) bytes remark =
    party_remark_line remark ++ source_at is_colored remark.is_warning bytes remark.spot

abbrev pub party_report_text : CheckForm → List ℕ → List PartyRemark → List ℕ
party_report_text form bytes remarks = flat_map (party_text_in form bytes) remarks

-- the first of what is wrong, or where warnings count of what is odd
abbrev pub first_flaw : List Flawed → Option ScenarioFault
first_flaw [] = None
first_flaw (flaw ∷ flaws) = Some flaw.fault

abbrev pub flaws_that_count : Bool → List Flawed → List Flawed → List Flawed
flaws_that_count true wrong odd = wrong ++ odd
flaws_that_count false wrong odd = wrong

-- the text tells all that is wrong with the parties and the questions of this document, and all that is odd in its
-- parties
pub record IsPartyReport (check : Check) (bytes : List ℕ) (document : Data) (fault : Option ScenarioFault)
    (text : List ℕ) : Type 0 where
  pub remarks : List PartyRemark
  pub remarked : ArePartyRemarks bytes (all_flaws_of document) (odd_at_parties (get (codes "parties") document))
      remarks
  pub lines : text ≡ party_report_text check.form bytes remarks
  pub first : fault ≡ first_flaw (flaws_that_count check.is_strict (all_flaws_of document)
      (odd_at_parties (get (codes "parties") document)))

-- bytes that are no JSON have neither
abbrev pub IsPartyReportOf : Check → List ℕ → Option ScenarioFault → List ℕ → Type 0
IsPartyReportOf check bytes fault text =
    (IsNoJson bytes × (fault ≡ None) × (text ≡ []))
    ⊎ ((document : Data) × IsJson bytes document × IsPartyReport check bytes document fault text)

abbrev pub first_fault : Option ScenarioFault → Option ScenarioFault → Option ScenarioFault
first_fault None other = other
first_fault (Some fault) other = Some fault

-- the text is the report on the run and then that on the parties; the fault is the first that one of them tells
pub record IsWholeCheck (check : Check) (bytes : List ℕ) (fault : Option ScenarioFault) (text : List ℕ) : Type 0 where
  pub run_fault : Option ScenarioFault
  pub run_text : List ℕ
  pub run : IsCheckReportOf check bytes run_fault run_text
  pub party_fault : Option ScenarioFault
  pub party_text : List ℕ
  pub parties : IsPartyReportOf check bytes party_fault party_text
  pub fault_told : fault ≡ first_fault run_fault party_fault
  pub both : text ≡ run_text ++ party_text
