-- The most that queues held and that groups used, after any step of a run.
use Rattle.std.specs.Prelude.{ℕ, ◌==◌, cond, max, nat_lt, List, [], ◌∷◌, ◌++◌, codes, decimal, flat_map}
use Rattle.std.specs.Prelude.{Option, option_map, unwrap_or}
use Rattle.dsa_base.specs.Rows.{when}
use Rattle.dsa_base.specs.Numbers.{numbers_below}
use Rattle.dsa_regs.specs.Config.{queue_at, group_at}
use Rattle.dsa_book.specs.{State.{occupancy}, Work.{used}}
use Rattle.dsa_device.specs.Running.{Running}
use Rattle.dsa_scenario.specs.Steps.{Visit}
use Rattle.dsa_count.specs.declared.peaks.Gauge.{Gauge, TheVariants.{Occupancy, Size, Used, Allowed}}
use Rattle.dsa_count.specs.declared.peaks.Holder.{Holder, TheVariants.{Queue, Group}}

-- what is read of a device: the occupancy of the queue of this number, its size, how many read buffers of the
-- group of this number are in use, how many it may use; nothing of one that the device does not have
abbrev pub reading : Running → Gauge → ℕ → Option ℕ
reading d Occupancy number = when (nat_lt number d.caps.queues) (occupancy d.state.work.content number)
reading d Size number =
    option_map (λ config. config.size)
    (when (nat_lt number d.caps.queues) (queue_at d.state.work.setup.configs number))
reading d Used number = when (nat_lt number d.caps.groups) (used d.state.work number)
reading d Allowed number =
    option_map (λ config. config.allowed)
    (when (nat_lt number d.caps.groups) (group_at d.state.work.setup.groups number))

abbrev pub gauged : Running → Gauge → ℕ → ℕ
gauged d gauge number = unwrap_or (reading d gauge number) 0

-- the most of it after one of these steps
abbrev pub peak_of : Gauge → List Visit → ℕ → ℕ
peak_of gauge [] number = 0
peak_of gauge (step ∷ steps) number = max (gauged step.after gauge number) (peak_of gauge steps number)

-- what fills a queue or a group, and up to where
abbrev pub gauges_of : Holder → Gauge × Gauge
gauges_of Queue = (Occupancy, Size)
gauges_of Group = (Used, Allowed)

-- what is told before its number, and behind its peak
abbrev pub peak_words : Holder → List ℕ × List ℕ
peak_words Queue = (codes "peak queue ", codes " entries\n")
peak_words Group = (codes "peak group ", codes " read buffers\n")

-- the line of one that was configured: the most that it held, and of how many
abbrev pub peak_line : Holder → ℕ → ℕ → ℕ → List ℕ
peak_line holder number filled bound =
    cond (bound == 0) []
    ((peak_words holder).0 ++ decimal number ++ codes ": " ++ decimal filled ++ codes " of " ++ decimal bound
    ++ (peak_words holder).1)

-- the lines of the numbers below this one
unfoldable pub peak_lines : Holder → (ℕ → ℕ) → (ℕ → ℕ) → ℕ → List ℕ
peak_lines holder filled bound below =
    flat_map (λ number. peak_line holder number (filled number) (bound number)) (numbers_below below)

-- a line for each queue, or for each group; a device has at most 64 of them
unfoldable pub peaks_of_holder : Holder → List Visit → List ℕ
peaks_of_holder holder steps =
    peak_lines holder (peak_of (gauges_of holder).0 steps) (peak_of (gauges_of holder).1 steps) 64

abbrev pub peaks_text : List Visit → List ℕ
peaks_text steps = peaks_of_holder Queue steps ++ peaks_of_holder Group steps
