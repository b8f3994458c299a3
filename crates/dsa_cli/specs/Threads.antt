-- The threads mode: what it sets up, what its workers are to do, and what it prints.
use Rattle.dsa_book.specs.declared.answer.Reply.TheVariants as reply
use Rattle.std.specs.Prelude.{◌≡◌, ◌≢◌, ◌≤◌, ◌<◌, ℕ, ◌+◌, ◌-◌, ◌*◌, ◌^◌, true, false, List, [], ◌∷◌}
use Rattle.std.specs.Prelude.{◌++◌, All, length}
use Rattle.std.specs.Prelude.{replicate, take, vec_len, slice_index_or, codes, decimal, Option}
use Rattle.std.specs.Prelude.{Some, ⊤}
use Rattle.std.specs.Global.{Vec}
use Rattle.dsa_desc.specs.declared.{Descriptor.{Descriptor}, Outcome.TheVariants.{Success}}
use Rattle.dsa_desc.specs.Descriptor.{read}
use Rattle.dsa_regs.specs.declared.Caps.{Caps}
use Rattle.dsa_regs.specs.declared.QueueConfig.{QueueConfig}
use Rattle.dsa_regs.specs.declared.GroupConfig.{GroupConfig}
use Rattle.dsa_regs.specs.declared.Command.TheVariants.{EnableDevice, EnableWq}
use Rattle.dsa_store.specs.Content.{held_count}
use Rattle.dsa_book.specs.declared.answer.IssueAnswer.TheVariants.{Ended}
use Rattle.dsa_book.specs.declared.answer.WriteAnswer.TheVariants.{Written}
use Rattle.dsa_book.specs.declared.event.Actor.TheVariants.{Client, Engine, Admin}
use Rattle.dsa_book.specs.declared.event.Event.{Event}
use Rattle.dsa_book.specs.declared.event.Event.TheVariants.{Submit, Issue, WriteQueue, WriteGroup}
use Rattle.dsa_book.specs.declared.event.Kind.TheVariants.{Enqcmd}
use Rattle.dsa_book.specs.declared.event.Portal.TheVariants.{Limited}
use Rattle.dsa_book.specs.declared.event.Step.{Step}
use Rattle.dsa_book.specs.State.{State}
use Rattle.dsa_book.specs.Machine.{is_legal, replay}
use Rattle.dsa_book.specs.Totals.{steps_of_actor, total_accepted}
use Rattle.dsa_shared.specs.declared.settle.Totals.{Totals}
use Rattle.dsa_shared.specs.Seat.{SeatLog, fresh}
use Rattle.dsa_shared.specs.Totals.{totals_of}
use Rattle.dsa_workers.specs.declared.scripts.{ClientStep.{ClientStep}, EngineScript.{EngineScript}}
use Rattle.dsa_workers.specs.declared.scripts.Scripts.{Scripts}
use Rattle.dsa_workers.specs.declared.scripts.Stint.{Stint}
use Rattle.dsa_workers.specs.declared.scripts.WorkerEnd.TheVariants.{HistoryFull}
use Rattle.dsa_workers.specs.Workers.{receipts_in, RunsClient, RunsEngine}
use Rattle.dsa_cli.specs.declared.threads.ThreadsFault.{ThreadsFault}
use Rattle.dsa_cli.specs.declared.threads.ThreadsFault.TheVariants.{SettleRefused, Write}
use Rattle.dsa_cli.specs.declared.threads.ThreadsFault.TheVariants.{OutOfMemory}
use Rattle.dsa_cli.specs.declared.options.Workload.{Workload}
use Rattle.dsa_cli.specs.declared.options.Asked.{Asked}
use Rattle.dsa_cli.specs.declared.options.Asked.TheVariants.{Scenario, Report, Serve, Threads}
use Rattle.dsa_cli.specs.declared.options.Asked.TheVariants.{HighThreshold, WrongValue}
use Rattle.dsa_scenario.specs.Lines.{line_of_text}

-- ---- what is asked

-- each number is one that may be asked for (profile)
pub record IsInRange (load : Workload) : Type 0 where
  pub clients : (1 ≤ load.clients) × (load.clients ≤ 16)
  pub engines : (1 ≤ load.engines) × (load.engines ≤ 8)
  pub each : (1 ≤ load.each) × (load.each ≤ 1_000)
  pub turns : (1 ≤ load.turns) × (load.turns ≤ 40_000)
  pub size : (1 ≤ load.size) × (load.size ≤ 1_024)
  pub threshold : (1 ≤ load.threshold) × (load.threshold ≤ load.size)
  pub slots : (1 ≤ load.slots) × (load.slots ≤ 16)
  pub buffers : (4 ≤ load.buffers) × (load.buffers ≤ 255)

abbrev pub IsAskedInRange : Asked → Type 0
IsAskedInRange Scenario = ⊤
IsAskedInRange (Report report) = ⊤
IsAskedInRange (WrongValue value) = ⊤
IsAskedInRange (Serve written) = ⊤
IsAskedInRange (Threads load) = IsInRange load
IsAskedInRange (HighThreshold load) = ⊤

-- ---- the device (profile)

abbrev pub caps_for : Workload → Caps
caps_for load = record {
  queues = 1;
  groups = 1;
  engines = load.engines;
  total_size = load.size;
  read_buffers = load.buffers;
  slots = load.slots;
  max_batch_shift = 3;
  max_xfer_shift = 20;
}

-- room for a step at each turn of each worker, and for those that set the device up (profile)
abbrev pub capacity_for : Workload → ℕ
capacity_for load = (load.clients + load.engines + 1) * load.turns + 4

abbrev pub queue_config : Workload → QueueConfig
queue_config load = record {
  size = load.size;
  threshold = load.threshold;
  dedicated = false;
  priority = 1;
  pasid = 0;
  max_batch_shift = 3;
  max_xfer_shift = 20;
}

-- the group of queue 0 and all engines, which has all read buffers
abbrev pub group_config : Workload → GroupConfig
group_config load = record { queues = 1; engines = 2 ^ load.engines - 1; reserved = 0; allowed = load.buffers }

-- the receipts of an administrator who has set the device up (profile)
abbrev pub setup_steps : Workload → List Step
setup_steps load =
    record { event = WriteQueue 0 (queue_config load); reply = reply.Write Written } ∷
    record { event = WriteGroup 0 (group_config load); reply = reply.Write Written } ∷
    record { event = Issue EnableDevice; reply = reply.Issue (Ended 0) } ∷
    record { event = Issue (EnableWq 0); reply = reply.Issue (Ended 0) } ∷ []

-- ---- the workers (profile)

abbrev pub client_move : Descriptor
client_move = record { pasid = 0; flags = 0; op = 0x03; size = 4096 }

-- a Move of 4096 bytes under this PASID, by ENQCMD to the limited portal of queue 0
pub record Submits (pasid : ℕ) (step : ClientStep) : Type 0 where
  pub queue : step.queue ≡ 0
  pub portal : step.portal ≡ Limited
  pub kind : step.kind ≡ Enqcmd pasid
  pub bytes : read step.bytes ≡ client_move

-- so many such Moves
pub record IsClientScript (pasid each : ℕ) (script : Vec ClientStep) : Type 0 where
  pub len : length script.items ≡ each
  pub moves : All (Submits pasid) script.items

abbrev pub engine_script : EngineScript
engine_script = record { member = record { pasid = 0; flags = 0; op = 0x00; size = 0 }; outcome = Success }

-- client c submits under PASID c + 1; the administrator has nothing to do
pub record AreScriptsOf (load : Workload) (scripts : Scripts) : Type 0 where
  pub count : vec_len scripts.clients ≡ load.clients
  pub clients : (c : ℕ) (d : Vec ClientStep) → c < load.clients
      → IsClientScript (c + 1) load.each (slice_index_or scripts.clients.items c d)
  pub engines : scripts.engines.items ≡ replicate load.engines engine_script
  pub admin : scripts.admin.items ≡ []

-- what client c submits, each time
abbrev pub submission_of : ℕ → Event
submission_of c = Submit c 0 Limited (Enqcmd (c + 1)) client_move

-- on a device of these capabilities and this capacity, the seat of client c after a worker of its own ran its
-- script, and found room for each call: it is through with the script, or it has used all turns
abbrev pub RanAsClient : Caps → ℕ → Workload → ℕ → SeatLog → Type 0
RanAsClient caps capacity load c seat = (script : List ClientStep) × (stint : Stint) × (length script ≡ load.each)
    × All (Submits (c + 1)) script × RunsClient caps capacity script load.turns (fresh c) seat stint
    × (stint.ended ≢ HistoryFull)

-- on such a device, the seat of engine e after a worker of its own used all turns, and found room for each call
abbrev pub RanAsEngine : Caps → ℕ → Workload → ℕ → SeatLog → Type 0
RanAsEngine caps capacity load e seat = (stint : Stint)
    × RunsEngine caps capacity engine_script load.turns (fresh e) seat stint × (stint.ended ≢ HistoryFull)

-- what the seats have after the run on such a device: the administrator has set it up, and each worker has run.
-- No client was accepted more often than it submits, and no worker made more steps than turns
pub record HaveWorked (caps : Caps) (capacity : ℕ) (load : Workload) (clients engines : List SeatLog)
    (admin : Option (List Step)) : Type 0 where
  pub client_count : length clients ≡ load.clients
  pub engine_count : length engines ≡ load.engines
  pub accepted : All (λ seat. total_accepted seat.receipts ≤ load.each) clients
  pub client_steps : All (λ seat. length seat.receipts ≤ load.turns) clients
  pub engine_steps : All (λ seat. length seat.receipts ≤ load.turns) engines
  pub numbers : (c : ℕ) (d : SeatLog) → c < load.clients → (slice_index_or clients c d).number ≡ c
  pub submitted : (c : ℕ) (d : SeatLog) → c < load.clients
      → All (λ step. step.event ≡ submission_of c) (slice_index_or clients c d).receipts
  pub setup : receipts_in admin ≡ setup_steps load
  pub client_runs : (c : ℕ) (d : SeatLog) → c < load.clients
      → RanAsClient caps capacity load c (slice_index_or clients c d)
  pub engine_runs : (e : ℕ) (d : SeatLog) → e < load.engines
      → RanAsEngine caps capacity load e (slice_index_or engines e d)

-- ---- faults

-- the sentence of a fault (profile)
abbrev pub threads_fault_text : ThreadsFault → List ℕ
threads_fault_text SettleRefused = codes "settle refused"
threads_fault_text Write = codes "write failed"
threads_fault_text OutOfMemory = codes "out of memory"

-- the line of a fault (profile)
abbrev pub threads_fault_line : ThreadsFault → List ℕ
threads_fault_line fault = codes "dsa_run: " ++ threads_fault_text fault ++ codes "\n"

-- ---- the totals (profile)

abbrev pub total_line : List ℕ → ℕ → List ℕ
total_line name total = line_of_text (name ++ codes " " ++ decimal total)

abbrev pub totals_text : Totals → List ℕ
totals_text t =
    total_line (codes "accepted") t.accepted
    ++ total_line (codes "fetched") t.fetched
    ++ total_line (codes "retried") t.retried
    ++ total_line (codes "done") t.done
    ++ total_line (codes "lost") t.lost
    ++ total_line (codes "held") t.held
    ++ line_of_text (codes "balanced")

-- the totals are those of a history of the device that is set up first and in which each worker has
-- run. At least one submission was accepted, no client's more often than it submits; and they balance
pub record AreTotalsOf (load : Workload) (totals : Totals) : Type 0 where
  pub history : List Step
  pub last : State
  pub legal : is_legal (caps_for load) history ≡ true
  pub replayed : replay (caps_for load) history ≡ Some last
  pub within : length history ≤ capacity_for load
  pub setup : steps_of_actor history Admin ≡ setup_steps load
  pub setup_first : take 4 history ≡ setup_steps load
  pub submitted : (c : ℕ) → c < load.clients → All (λ step. step.event ≡ submission_of c)
      (steps_of_actor history (Client c))
  pub counted : totals ≡ totals_of history (held_count last.work.content)
  pub balanced : totals.accepted + totals.fetched ≡ totals.done + totals.lost + totals.held
  pub accepted : totals.accepted ≤ load.clients * load.each
  pub accepted_one : 1 ≤ totals.accepted
  pub client_runs : (c : ℕ) → c < load.clients → RanAsClient (caps_for load) (capacity_for load) load c
      (record { number = c; receipts = steps_of_actor history (Client c) })
  pub engine_runs : (e : ℕ) → e < load.engines → RanAsEngine (caps_for load) (capacity_for load) load e
      (record { number = e; receipts = steps_of_actor history (Engine e) })
