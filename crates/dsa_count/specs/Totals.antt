-- The totals of a document's run.
use Rattle.std.specs.Prelude.{◌≡◌, ℕ, ◌<◌, List, ◌++◌, get_or, map}
use Rattle.dsa_device.specs.Running.{Running}
use Rattle.dsa_scenario.specs.{declared.run.Record.{Record}, Steps.{Visit, IsTextOfDocument}}
use Rattle.dsa_count.specs.declared.peaks.Gauge.{Gauge, TheVariants.{Occupancy, Size, Used, Allowed}}
use Rattle.dsa_count.specs.declared.rendering.Page.{Page}
use Rattle.dsa_count.specs.{Tallies.{tallies_text}, Peaks.{peak_of, peaks_text}, Waits.{command_lines}, Fates.{fates_line}}

-- what came of each step
abbrev pub entries_in_turn : List Visit → List Record
entries_in_turn steps = map (λ step. step.entry) steps

-- what became of the submissions, the peaks of queues and groups, how long commands waited, and how entries ended
abbrev pub text_of_totals : List Visit → Running → List ℕ
text_of_totals steps last =
    tallies_text (entries_in_turn steps) ++ peaks_text steps ++ command_lines 0 (entries_in_turn steps)
    ++ fates_line last.state.work.fates

-- the text has the totals of these steps, after which the device stands so
abbrev pub AreTotalsOfSteps : List Visit → Running → List ℕ → Type 0
AreTotalsOfSteps steps last text = text ≡ text_of_totals steps last

-- the bytes are a document without a fault, and the text has the totals of a run of it
abbrev pub AreTotalsOfDocument : List ℕ → List ℕ → Type 0
AreTotalsOfDocument bytes text = IsTextOfDocument AreTotalsOfSteps bytes text

-- ---- what is kept of the steps so far

-- the peaks of the first 64 numbers
abbrev pub ArePeaks : Gauge → List Visit → List ℕ → Type 0
ArePeaks gauge steps peaks = (number : ℕ) → number < 64 → get_or peaks number 0 ≡ peak_of gauge steps number

pub record IsPageOf (steps : List Visit) (page : Page) : Type 0 where
  pub entries : page.records.items ≡ entries_in_turn steps
  pub occupancies : ArePeaks Occupancy steps page.occupancies.items
  pub sizes : ArePeaks Size steps page.sizes.items
  pub used : ArePeaks Used steps page.used.items
  pub allowed : ArePeaks Allowed steps page.allowed.items
