-- The counters of queues and groups.
use Rattle.dsa_book.specs.declared.answer.Reply.TheVariants as reply
use Rattle.dsa_book.specs.declared.event.Event.TheVariants as event
use Rattle.std.specs.Prelude.{ℕ, cond, nat_lt, List, [], ◌++◌, Option, Some, None, codes, decimal, flat_map}
use Rattle.dsa_base.specs.{Numbers.{numbers_below}, Rows.{when}}
use Rattle.dsa_regs.specs.declared.Caps.{Caps}
use Rattle.dsa_book.specs.{State.{occupancy}, Work.{group_of_engine, used}}
use Rattle.dsa_book.specs.declared.{answer.Reply.{Reply}, event.Event.{Event}}
use Rattle.dsa_book.specs.declared.answer.{DispatchAnswer.TheVariants.{Taken}, FinishAnswer.TheVariants.{Done}}
use Rattle.dsa_book.specs.declared.answer.{IssueAnswer.TheVariants.{Ended}, StartAnswer.TheVariants.{Started}}
use Rattle.dsa_book.specs.declared.answer.SubmitAnswer.TheVariants.{Accepted}
use Rattle.dsa_device.specs.Running.{Running}
use Rattle.dsa_scenario.specs.declared.run.Record.{Record, TheVariants.{Stepped, Refused}}
use Rattle.dsa_chrome.specs.declared.counters.Gauge.{Gauge, TheVariants.{Queue, Group}}

-- what comes before the number of a queue or a group, and before what is counted
abbrev pub counter_words : Gauge → List ℕ × List ℕ
counter_words Queue = (codes ",\n{\"name\":\"queue ", codes ",\"pid\":1,\"args\":{\"entries\":")
counter_words Group = (codes ",\n{\"name\":\"group ", codes ",\"pid\":1,\"args\":{\"read buffers\":")

-- how many entries wait in the queue of this number, or how many read buffers of the group are in use
abbrev pub filled : Running → Gauge → ℕ → Option ℕ
filled d Queue index = when (nat_lt index d.caps.queues) (occupancy d.state.work.content index)
filled d Group index = when (nat_lt index d.caps.groups) (used d.state.work index)

-- a counter after the step of this number
abbrev pub counter_text : Gauge → ℕ → ℕ → ℕ → List ℕ
counter_text gauge number index value =
    (counter_words gauge).0 ++ decimal index ++ codes "\",\"ph\":\"C\",\"ts\":" ++ decimal number
    ++ (counter_words gauge).1 ++ decimal value ++ codes "}}"

abbrev pub counter_of : Gauge → ℕ → ℕ → Option ℕ → List ℕ
counter_of gauge number index None = []
counter_of gauge number index (Some value) = counter_text gauge number index value

abbrev pub counter_part : Running → Gauge → ℕ → ℕ → List ℕ
counter_part d gauge number index = counter_of gauge number index (filled d gauge index)

-- how many of them the device has
abbrev pub gauge_count : Caps → Gauge → ℕ
gauge_count caps Queue = caps.queues
gauge_count caps Group = caps.groups

-- a counter for each of them
abbrev pub each_counter : Running → Gauge → ℕ → List ℕ
each_counter d gauge number = flat_map (counter_part d gauge number) (numbers_below (gauge_count d.caps gauge))

abbrev pub all_counters : Running → ℕ → List ℕ
all_counters d number = each_counter d Queue number ++ each_counter d Group number

-- the counter of the group that has this engine
abbrev pub group_counter : Running → ℕ → Option ℕ → List ℕ
group_counter d number None = []
group_counter d number (Some group) = counter_part d Group number group

abbrev pub engine_counter : Running → ℕ → ℕ → List ℕ
engine_counter d number engine = group_counter d number (group_of_engine d.state.work engine)

-- what a step may have changed: a submission its queue; what is taken that queue, and the group of its engine; a start
-- and a finish this group; and a command that took entries out all queues and groups
abbrev pub counters_of_step : Running → ℕ → Event → Reply → List ℕ
counters_of_step d number (event.Submit client queue portal kind desc) (reply.Submit (Accepted ticket)) =
    counter_part d Queue number queue
counters_of_step d number (event.Dispatch engine) (reply.Dispatch (Taken ticket queue)) =
    counter_part d Queue number queue ++ engine_counter d number engine
counters_of_step d number (event.Start engine) (reply.Start (Started ticket)) = engine_counter d number engine
counters_of_step d number (event.Finish engine ticket outcome) (reply.Finish (Done status)) =
    engine_counter d number engine
counters_of_step d number _ (reply.Issue (Ended aborted)) = cond (nat_lt 0 aborted) (all_counters d number) []
counters_of_step d number _ _ = []

abbrev pub counters_of_record : Running → ℕ → Record → List ℕ
counters_of_record d number (Stepped step) = counters_of_step d number step.event step.reply
counters_of_record d number (Refused fault) = []
