use Rattle.dsa_check.proofs.rows.faults_of_texts.Goals as goal
use Rattle.std.proofs.Common.{◌≡◌, ◌⊎◌, ◌∙◌, ◌==◌, ◌++◌, ◌||◌, ℕ, Bool, false, true, List, [], ◌∷◌}
use Rattle.std.proofs.Common.{Some, codes, refl, ap, subst, lit≤}
use Rattle.std.proofs.{Common.{inl, inr, flat_map, map, Option, None}, lemmas.List.Folds.{list_any-append}}
use Rattle.std.proofs.lemmas.List.{append_assoc}
use Rattle.std.specs.List.{list_any}
use Rattle.std.specs.Prelude.{IsUtf8, option_map}
use Rattle.serde_json.{specs.{Data.{Data}, Read.{read}}, proofs.OnLiterals.{serde_json_on_literals}}
use Rattle.dsa_regs.specs.Caps.{check_caps}
use Rattle.dsa_scenario.specs.declared.faults.ScenarioFault.{ScenarioFault, TheVariants.{BadDocument, BadCaps}}
use Rattle.dsa_scenario.specs.declared.faults.ScenarioFault.TheVariants.{BadCapacity}
use Rattle.dsa_scenario.specs.Worked.{no_caps_text, smallest_caps, document_text}
use Rattle.dsa_scenario.proofs.Heads.{document_by, same_caps, same_head}
use Rattle.dsa_check.specs.declared.finding.{Finding.{Finding}, Reason.{Reason}}
use Rattle.dsa_check.specs.Lines.{fault_part_text, warning_mark, spot_text, known_text, remark_text}
use Rattle.dsa_check.specs.Remarks.{Said, said, reasons_or_none, said_of_fault, said_of_warning, said_of}
use Rattle.dsa_check.specs.declared.remarks.Remark.{Remark}
use Rattle.dsa_check.specs.Check.{first_of, faults_warned, report_text}
use Rattle.dsa_check.specs.declared.checking.CheckForm.TheVariants.{Lines}
use Rattle.dsa_check.specs.Warnings.{AreWarningsOf, warnings_told, warnings_of_value}
use Rattle.dsa_check.proofs.{Told.{same_value}, Warned.{none_said, no_remarks}}
use Rattle.dsa_scenario.specs.Document.{IsJson}
use Rattle.json.specs.Json.{document}
use Rattle.dsa_check.specs.{Judgement.{AreFaultsOf, IsRight, faults_told, faults_of_value}, Worked.{right_text}}

pub returns-clause-no_json : goal.returns-clause-no_json
unfolding serde_json_on_literals
returns-clause-no_json c = inl ((λ utf8. refl), refl)

-- what a text is read as has its faults
of_read : (bytes : List ℕ) (faults : List ScenarioFault) (d : Data) → read bytes ≡ Some d
    → AreFaultsOf bytes faults → (IsUtf8 bytes → ⊥) ⊎ (faults ≡ faults_of_value d)
of_read bytes faults d e (inl h) = inl (λ utf8. let none = h.0 utf8 in absurd cc)
of_read bytes faults d e (inr h) =
    let value = h.1.value in
    let same : h.0 ≡ d = cc in
    inr (h.2 ∙ ap faults_of_value same)

pub returns-clause-untold : goal.returns-clause-untold
unfolding serde_json_on_literals
returns-clause-untold c is = untold is
  where
    untold : AreFaultsOf (codes "{") [] → ⊥
    untold (inl h) =
        let told = h.1 in
        absurd cc
    untold (inr h) =
        let value = h.1.value in
        absurd cc

pub returns-clause-number : goal.returns-clause-number
unfolding serde_json_on_literals
returns-clause-number c = inr (_, record { utf8 = (codes "1", (refl, refl)); value = refl }, refl)

pub returns-clause-json : goal.returns-clause-json
unfolding serde_json_on_literals
returns-clause-json c is = elim (of_read (codes "1") _ _ refl is) [
  | inl none ↦ none (codes "1", (refl, refl))
  | inr told ↦ absurd cc
]

pub returns-clause-untold_number : goal.returns-clause-untold_number
unfolding serde_json_on_literals
returns-clause-untold_number c is = elim (of_read (codes "1") _ _ refl is) [
  | inl none ↦ none (codes "1", (refl, refl))
  | inr told ↦ absurd cc
]

right_is_right : IsRight right_text
unfolding serde_json_on_literals
right_is_right = record {
  caps = smallest_caps;
  capacity = _;
  actions = [];
  document = document_by right_text _ smallest_caps _ _ [] (right_text, (refl, refl)) refl refl refl;
  opening = record { good = refl; small = lit≤ tt };
}

pub returns-clause-right : goal.returns-clause-right
returns-clause-right c = right_is_right

pub returns-clause-no_document : goal.returns-clause-no_document
unfolding serde_json_on_literals
returns-clause-no_document c is =
    let head = same_head (codes "{}") _ _ _ _ refl is.document.head in
    absurd cc

pub returns-clause-no_device : goal.returns-clause-no_device
unfolding serde_json_on_literals
returns-clause-no_device c is =
    let text = document_text no_caps_text (codes "9") [] in
    let bad : false ≡ true = ap check_caps (same_caps text _ _ _ _ refl is.document.head) ∙ is.opening.good in
    absurd cc

-- it has no warning
right_warns : (d : Data) → IsJson right_text d → [] ≡ warnings_of_value (document right_text) d
unfolding serde_json_on_literals
right_warns d json = subst (λ (v : Data). [] ≡ warnings_of_value (document right_text) v) (same_value right_text _ d refl json.value) refl

no_warning : (warnings : List Finding) → AreWarningsOf right_text warnings → warnings_told warnings ≡ []
unfolding serde_json_on_literals
no_warning warnings warned = warned.all _ (record { utf8 = (right_text, (refl, refl)); value = refl })

pub returns-clause-report : goal.returns-clause-report
unfolding serde_json_on_literals
returns-clause-report c = record {
  findings = [];
  all = inr (_, record { utf8 = (right_text, (refl, refl)); value = refl }, refl);
  judged = right_is_right;
  told = record { json = λ d json. tt; text = λ none. tt };
  warnings = [];
  warned = record { all = right_warns; placed = λ d json. tt; none = λ none. refl };
  first = refl;
  remarks = [];
  remarked = record { all = refl; placed = tt };
  lines = refl;
}

-- nothing is told of it
none_told : (findings : List Finding) → AreFaultsOf right_text (faults_told findings) → findings ≡ []
unfolding serde_json_on_literals
none_told [] are = refl
none_told (finding ∷ findings) are = elim (of_read right_text _ _ refl are) [
  | inl none ↦ absurd (none (right_text, (refl, refl)))
  | inr told ↦ absurd cc
]

pub returns-clause-right_with_a_fault : goal.returns-clause-right_with_a_fault
returns-clause-right_with_a_fault c is =
    let first = rw (none_told is.findings is.all) at is.first in
    absurd cc

pub returns-clause-right_with_a_line : goal.returns-clause-right_with_a_line
returns-clause-right_with_a_line c is =
    let none = none_said is.warnings (no_warning is.warnings is.warned) in
    let all = rw (none_told is.findings is.all, none) at is.remarked.all in
    let lines = rw (no_remarks is.remarks all) at is.lines in
    absurd cc

pub returns-clause-warning_before_a_fault : goal.returns-clause-warning_before_a_fault
unfolding serde_json_on_literals
returns-clause-warning_before_a_fault c text is =
    let bytes = codes "{\"caps\":{\"z\":0}}" in
    elim (of_read bytes _ _ refl is.all) [
      | inl none ↦ none (bytes, (refl, refl))
      | inr told ↦
          let warned = faults_warned true is.warnings in
          let first : Some BadCaps ≡ Some BadDocument =
          is.first ∙ ap (λ faults. first_of (faults ++ warned)) told
          in
          absurd cc
    ]

-- ---- the name of the capacity has the letter y, in the lines of its fault too

abbrev is_y : ℕ → Bool
is_y byte = byte == 121

in_first : (xs ys : List ℕ) → list_any is_y xs ≡ true → list_any is_y (xs ++ ys) ≡ true
in_first xs ys h = list_any-append is_y xs ys ∙ ap (λ b. b || list_any is_y ys) h

in_second : (xs ys : List ℕ) → list_any is_y ys ≡ true → list_any is_y (xs ++ ys) ≡ true
in_second xs ys h = list_any-append is_y xs ys ∙ ap (λ b. list_any is_y xs || b) h ∙ either (list_any is_y xs)
  where
    either : (b : Bool) → b || true ≡ true
    either true = refl
    either false = refl

in_remark : (remark : Remark) → remark.finding.now.fault ≡ BadCapacity → list_any is_y (remark_text remark) ≡ true
in_remark remark is =
    let finding = remark.finding.now in
    let place = warning_mark remark.is_warning ++ spot_text finding remark.spot in
    let part = fault_part_text finding.fault finding.place.kind in
    let known = known_text (option_map (λ r. r.now) remark.reason) in
    in_first (place ++ part ++ known) (codes "\n")
    (in_first (place ++ part) known
    (in_second place part (ap (λ f. list_any is_y (fault_part_text f finding.place.kind)) is)))

in_said : (bytes : List ℕ) (remarks : List Remark) (before after : List Said) (finding : Finding) (reason : Option Reason)
    → finding.fault ≡ BadCapacity → map said remarks ≡ before ++ (false, finding, reason) ∷ after
    → list_any is_y (report_text Lines bytes remarks) ≡ true
in_said bytes [] [] after finding reason is e = absurd cc
in_said bytes [] (s ∷ before) after finding reason is e = absurd cc
in_said bytes (remark ∷ remarks) [] after finding reason is e =
    let same : said remark ≡ (false, finding, reason) = cc in
    let of_capacity : remark.finding.now.fault ≡ BadCapacity = ap (λ (s : Said). s.1.fault) same ∙ is in
    in_first (remark_text remark) (report_text Lines bytes remarks) (in_remark remark of_capacity)
in_said bytes (remark ∷ remarks) (s ∷ before) after finding reason is e =
    in_second (remark_text remark) (report_text Lines bytes remarks) (in_said bytes remarks before after finding reason is cc)

-- what is said of a fault begins with it
said_first : (finding : Finding) (reasons : List Reason)
    → (reason : Option Reason) × (more : List Said)
    × (map (λ (r : Option Reason). (false, finding, r)) (reasons_or_none reasons) ≡ (false, finding, reason) ∷ more)
said_first finding [] = (None, [], refl)
said_first finding (r ∷ rs) = (Some r, _, refl)

in_report : (bytes : List ℕ) (findings warnings : List Finding) (remarks : List Remark)
    → faults_told findings ≡ BadCaps ∷ BadCapacity ∷ [] → map said remarks ≡ said_of findings warnings
    → list_any is_y (report_text Lines bytes remarks) ≡ true
in_report bytes [] warnings remarks e all = absurd cc
in_report bytes (f ∷ []) warnings remarks e all = absurd cc
in_report bytes (f ∷ g ∷ findings) warnings remarks e all =
    let told : f.fault ∷ g.fault ∷ faults_told findings ≡ BadCaps ∷ BadCapacity ∷ [] = e in
    let is : g.fault ≡ BadCapacity = cc in
    let first = said_first g g.reasons.items in
    let rest = flat_map said_of_fault findings in
    let warned = flat_map said_of_warning warnings in
    let same : said_of (f ∷ g ∷ findings) warnings
    ≡ said_of_fault f ++ (false, g, first.0) ∷ ((first.1 ++ rest) ++ warned) =
    append_assoc (said_of_fault f) (said_of_fault g ++ rest) warned ∙ ap (λ xs. said_of_fault f ++ ((xs ++ rest) ++ warned)) first.2 in
    in_said bytes remarks (said_of_fault f) ((first.1 ++ rest) ++ warned) g first.0 is (all ∙ same)

pub returns-clause-second_untold : goal.returns-clause-second_untold
unfolding serde_json_on_literals
returns-clause-second_untold c is =
    let text = document_text no_caps_text (codes "1048577") [] in
    elim (of_read text (faults_told is.findings) _ refl is.all) [
      | inl none ↦ none (text, (refl, refl))
      | inr told ↦
          let none : false ≡ true = ap (list_any is_y) is.lines
          ∙ in_report text is.findings is.warnings is.remarks told is.remarked.all in
          absurd cc
    ]
