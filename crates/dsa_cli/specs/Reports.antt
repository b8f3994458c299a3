-- Texts that are made of a document in place of its lines.
use Rattle.std.specs.Prelude.{◌≡◌, ◌⊎◌, ◌<◌, ℕ, List, Option, Some, None, length, take}
use Rattle.std.specs.Io.KnownBytes.{Appends}
use Rattle.dsa_scenario.specs.declared.faults.ScenarioFault.{ScenarioFault, TheVariants.{TooLong}}
use Rattle.dsa_scenario.specs.Scenario.{HasFault, IsTextWritten, IsTextCutShort}
use Rattle.dsa_check.specs.Check.{too_long_text}
use Rattle.dsa_party_check.specs.PartyCheck.{IsWholeCheck}
use Rattle.dsa_conform.specs.{AsSeen.{IsMadeAsSeen}, Every.{IsConformanceOf}}
use Rattle.dsa_named.specs.Steps.{NamedVisit, IsNamedText}
use Rattle.dsa_named_lines.specs.Run.{AreNamedLinesOf}
use Rattle.dsa_named_seen.specs.Seen.{IsNamedAsSeen}
use Rattle.dsa_named_trace.specs.Run.{IsNamedTraceOf}
use Rattle.dsa_named_trace.specs.Streams.{AreNamedLinesOfStart, IsNamedTraceBegun}
use Rattle.dsa_device.specs.Running.{Running}
use Rattle.dsa_scenario.specs.Steps.{Visit, IsTextOfDocument}
use Rattle.dsa_trace.specs.declared.form.Trace.{Trace as TraceForm}
use Rattle.dsa_chrome.specs.Traces.{IsChromeTraceOf}
use Rattle.dsa_count.specs.Totals.{AreTotalsOfDocument}
use Rattle.dsa_draw.specs.Drawings.{IsDrawnOf}
use Rattle.dsa_expand.specs.{Expansion.{IsExpansion}, Friendly.{IsMadeOfFriendly}}
use Rattle.dsa_exploration.specs.{Exploration.{IsExplorationOf}, Sampling.{IsSamplingOf}, Showing.{IsShowingOf}}
use Rattle.dsa_cli.specs.declared.reports.{Report.{Report}, Run.{Run, TheVariants.{Own, Seen}}}
use Rattle.dsa_cli.specs.declared.reports.Written.{Written, TheVariants.{Strict, Friendly}}
use Rattle.dsa_cli.specs.declared.reports.Report.TheVariants.{Check, Explain, Trace, Chrome, Count}
use Rattle.dsa_cli.specs.declared.reports.Report.TheVariants.{Draw, Conform, Expand, Explore, Sample, Show}

-- the text, and the fault that is told after it, are made of this run of a document (profile)
abbrev pub IsMadeOfRun : Run → (List Visit → Running → List ℕ → Type 0) → List ℕ → Option ScenarioFault → List ℕ
    → Type 0
IsMadeOfRun Own is_text bytes fault text = (fault ≡ None) × IsTextOfDocument is_text bytes text
IsMadeOfRun Seen is_text bytes fault text = IsMadeAsSeen is_text bytes fault text

-- the same, with own names (profile)
abbrev pub IsNamedOfRun : Run → (List NamedVisit → Running → List ℕ → Type 0) → List ℕ → Option ScenarioFault → List ℕ
    → Type 0
IsNamedOfRun Own is_text bytes fault text = (fault ≡ None) × IsNamedText is_text bytes text
IsNamedOfRun Seen is_text bytes fault text = IsNamedAsSeen is_text bytes fault text

-- the text, and the fault that is told after it, are made of a document in this form (profile)
abbrev pub IsMadeOfWritten : Written → (List ℕ → Option ScenarioFault → List ℕ → Type 0) → List ℕ
    → Option ScenarioFault → List ℕ → Type 0
IsMadeOfWritten Strict is_made bytes fault text = is_made bytes fault text
IsMadeOfWritten Friendly is_made bytes fault text = IsMadeOfFriendly is_made bytes fault text

-- they are this report on a document (profile)
abbrev pub IsReportOf : Report → List ℕ → Option ScenarioFault → List ℕ → Type 0
IsReportOf (Check check) bytes fault text = IsWholeCheck check bytes fault text
IsReportOf (Explain selection run) bytes fault text = IsNamedOfRun run (AreNamedLinesOf selection) bytes fault text
IsReportOf (Trace form run) bytes fault text = IsNamedOfRun run (IsNamedTraceOf form) bytes fault text
IsReportOf (Chrome run) bytes fault text = IsMadeOfRun run IsChromeTraceOf bytes fault text
IsReportOf Count bytes fault text = (fault ≡ None) × AreTotalsOfDocument bytes text
IsReportOf (Draw drawing run) bytes fault text = IsNamedOfRun run (IsDrawnOf drawing.steps) bytes fault text
IsReportOf (Conform conformance written) bytes fault text =
    IsMadeOfWritten written (IsConformanceOf conformance.is_all) bytes fault text
IsReportOf Expand bytes fault text = IsExpansion bytes fault text
IsReportOf (Explore exploring) bytes fault text = IsExplorationOf exploring.form exploring.bounds bytes fault text
IsReportOf (Show showing) bytes fault text = IsShowingOf showing.bounds showing.row.now bytes fault text
IsReportOf (Sample sampling) bytes fault text = IsSamplingOf sampling.form sampling.walks bytes fault text

-- the form of a trace of the device's own run, which alone is written on the way (profile)
abbrev pub streamed_form : Report → Option TraceForm
streamed_form (Trace form Own) = Some form
streamed_form report = None

-- ---- documents that are too long

-- what is written of such a document: only a check has a text of it (profile)
abbrev pub text_if_too_long : Report → Option (List ℕ)
text_if_too_long (Check check) = Some (too_long_text check.form)
text_if_too_long report = None

-- the reader gave more than a document has, and all of this text was written
abbrev pub IsTooLongTold : Option (List ℕ) → Option (List ℕ) → Option (List ℕ) → Option (List ℕ) → Option (List ℕ)
    → Type 0
IsTooLongTold told had left held holds =
    (text : List ℕ) × (told ≡ Some text) × HasFault had left TooLong × Appends held holds text

-- the same, and only its first bytes were
abbrev pub IsTooLongCut : Option (List ℕ) → Option (List ℕ) → Option (List ℕ) → Option (List ℕ) → Option (List ℕ)
    → Type 0
IsTooLongCut told had left held holds = (text : List ℕ) × (count : ℕ) × (told ≡ Some text)
    × HasFault had left TooLong × (count < length text) × Appends held holds (take count text)

-- ---- reports that were written

-- all of a text of the document was written, or of the one that is told where it is too long; then this fault is told
abbrev pub IsTextOrTooLong : (List ℕ → Option ScenarioFault → List ℕ → Type 0) → Option (List ℕ) → Option ScenarioFault
    → Option (List ℕ) → Option (List ℕ) → Option (List ℕ) → Option (List ℕ) → Type 0
IsTextOrTooLong is_of told fault had left held holds =
    IsTextWritten (λ bytes text. is_of bytes fault text) had left held holds
    ⊎ (fault ≡ Some TooLong) × IsTooLongTold told had left held holds

-- only the first bytes of such a text were
abbrev pub IsTextOrTooLongCut : (List ℕ → Option ScenarioFault → List ℕ → Type 0) → Option (List ℕ) → Option (List ℕ)
    → Option (List ℕ) → Option (List ℕ) → Option (List ℕ) → Type 0
IsTextOrTooLongCut is_of told had left held holds = IsTextCutShort is_of had left held holds
    ⊎ IsTooLongCut told had left held holds

-- all of the report on what the reader gave was written; then this fault is told
abbrev pub IsReported : Report → Option ScenarioFault → Option (List ℕ) → Option (List ℕ) → Option (List ℕ)
    → Option (List ℕ) → Type 0
IsReported report fault had left held holds =
    IsTextOrTooLong (IsReportOf report) (text_if_too_long report) fault had left held holds

-- the same, and only the first bytes were written: of the report, or of the rows of its first steps, where it is a
-- trace of the device's own run
abbrev pub IsReportCutShort : Report → Option (List ℕ) → Option (List ℕ) → Option (List ℕ) → Option (List ℕ) → Type 0
IsReportCutShort (Trace form Own) had left held holds = IsTextCutShort (IsNamedTraceBegun form) had left held holds
IsReportCutShort report had left held holds =
    IsTextOrTooLongCut (IsReportOf report) (text_if_too_long report) had left held holds

-- the same, and only whole rows of the first steps were written: of such a trace (profile)
abbrev pub IsReportBegun : Report → Option (List ℕ) → Option (List ℕ) → Option (List ℕ) → Option (List ℕ) → Type 0
IsReportBegun (Trace form Own) had left held holds = IsTextWritten (AreNamedLinesOfStart form) had left held holds
IsReportBegun _ had left held holds = ⊥
