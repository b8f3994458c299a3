-- Texts that are written on the way, and those that are written when they are whole.
use Rattle.std.proofs.Common.{◌≡◌, ◌≢◌, ◌⊎◌, inl, inr, ℕ, List, Option, Some, None, refl, take}
use Rattle.std.specs.Io.KnownBytes.{Appends}
use Rattle.dsa_scenario.specs.declared.faults.ScenarioFault.{ScenarioFault}
use Rattle.dsa_scenario.specs.declared.faults.ScenarioFault.TheVariants.{OutOfMemory}
use Rattle.dsa_cli.specs.declared.reports.{Report.{Report, TheVariants.{Trace}}, Run.TheVariants.{Own}}
use Rattle.dsa_cli.specs.Endings.{IsStoppedBy, IsStoppedOnTheWay}
use Rattle.dsa_trace.specs.declared.form.Trace.{Trace as TraceForm}
use Rattle.dsa_cli.specs.Reports.{IsReportBegun, IsReportCutShort, IsReportOf, IsTextOrTooLongCut, streamed_form}
use Rattle.dsa_cli.specs.Reports.{text_if_too_long}

-- a fault is want of memory, or another
pub memory_or_not : (e : ScenarioFault) → (e ≡ OutOfMemory) ⊎ (e ≢ OutOfMemory)
memory_or_not OutOfMemory = inl refl
memory_or_not _ = inr (λ same. absurd cc)

-- a report that is not streamed is cut short as a text that is written when it is whole
pub cut_whole : (report : Report) (had left held holds : Option (List ℕ)) → streamed_form report ≡ None
    → IsTextOrTooLongCut (IsReportOf report) (text_if_too_long report) had left held holds
    → IsReportCutShort report had left held holds
cut_whole (Trace form Own) had left held holds whole cut = absurd cc
cut_whole _ had left held holds whole cut = cut

-- one that is streamed is a trace of this form
pub is_streamed : (report : Report) (form : TraceForm) → streamed_form report ≡ Some form → report ≡ Trace form Own
is_streamed (Trace other Own) form same = cc
is_streamed _ form same = absurd cc

-- a report that is written when it is whole ends as one that is written on the way
pub ended_whole : {W : Type 0} {All Untold Noted Told : ScenarioFault → Type 0} (report : Report)
    (had left : Option (List ℕ)) (contents : W → Option (List ℕ)) (old new : W) → streamed_form report ≡ None
    → (fault : ScenarioFault)
    × (All fault
    ⊎ IsStoppedBy fault (IsTextOrTooLongCut (IsReportOf report) (text_if_too_long report)) had left contents old new
    × Untold fault × Noted fault)
    × Told fault
    → (fault : ScenarioFault)
    × (All fault ⊎ IsStoppedOnTheWay fault (IsReportCutShort report) (IsReportBegun report) had left contents old new
    × Untold fault × Noted fault)
    × Told fault
ended_whole report had left contents old new whole ended = (
  ended.0,
  elim ended.1 [
    | inl all ↦ inl all
    | inr (stopped, untold, noted) ↦ inr (
      (stopped.0, (λ other. inl (stopped.1 other)), (λ e. cut_whole report had left _ _ whole (stopped.2 e))),
      untold,
      noted,
    )
  ],
  ended.2,
)

-- what was written of a report is so of any writer to which as much was added
pub cut_with : (report : Report) (had left held holds other others : Option (List ℕ))
    → IsReportCutShort report had left held holds
    → ((text : List ℕ) → Appends held holds text → Appends other others text)
    → IsReportCutShort report had left other others
cut_with (Trace form Own) had left held holds other others cut adds =
    (cut.0, cut.1, cut.2, cut.3, cut.4, cut.5, cut.6, adds (take cut.3 cut.1) cut.7)
cut_with _ had left held holds other others (inl cut) adds =
    inl (cut.0, cut.1, cut.2, cut.3, cut.4, cut.5, cut.6, adds (take cut.3 cut.1) cut.7)
cut_with _ had left held holds other others (inr cut) adds =
    inr (cut.0, cut.1, cut.2, cut.3, cut.4, adds (take cut.1 cut.0) cut.5)

pub begun_with : (report : Report) (had left held holds other others : Option (List ℕ))
    → IsReportBegun report had left held holds
    → ((text : List ℕ) → Appends held holds text → Appends other others text)
    → IsReportBegun report had left other others
begun_with (Trace form Own) had left held holds other others begun adds =
    (begun.0, begun.1, begun.2, begun.3, adds begun.1 begun.4)
begun_with _ had left held holds other others begun adds = absurd begun
