-- What workers do to the seats that they are lent.
use Rattle.std.specs.Prelude.{◌≡◌, ◌≢◌, ◌↔◌, ℕ, ◌+◌, ◌<◌, ◌≤◌, ◌++◌, List, [], length, take, Option, IsSome}
use Rattle.std.specs.Prelude.{slice_index_or}
use Rattle.std.specs.{Global.{Vec}, Option.{option_map_or}}
use Rattle.dsa_regs.specs.declared.{Caps.{Caps}, Command.{Command}}
use Rattle.dsa_book.specs.{declared.event.Step.{Step}, Machine.{stored_steps}, Totals.{total_accepted}}
use Rattle.dsa_shared.specs.Seat.{SeatLog}
use Rattle.dsa_workers.specs.declared.scripts.{ClientStep.{ClientStep}, EngineScript.{EngineScript}, Stint.{Stint}}
use Rattle.dsa_workers.specs.declared.scripts.WorkerEnd.TheVariants.{ScriptDone, TurnsOut, HistoryFull}
use Rattle.dsa_workers.specs.declared.{scripts.RunReport.{RunReport}, lanes.Lane.{Lane}}
use Rattle.dsa_workers.specs.Calls.{InOrder, steps_done, found_full, NextSubmission, NextCommand, NextTurn, calls_of}

-- the receipts begin with the old ones, and at most so many were added
pub record Grows (old new : List Step) (most : ℕ) : Type 0 where
  pub prefix : take (length old) new ≡ old
  pub bound : length new ≤ length old + most

-- what a worker with a script of so many steps does in at most `limit` turns:
-- one call a turn, of which the history kept some
pub record RunsScript (next : List Step → Step
    → Type 0) (steps limit : ℕ) (old new : List Step) (stint : Stint) : Type 0 where
  pub calls : List Step
  pub receipts : new ≡ old ++ stored_steps calls
  pub in_order : InOrder next calls
  pub stops : InOrder (λ before call. found_full before ≡ 0) calls
  pub turns : length calls ≡ stint.turns
  pub within : stint.turns ≤ limit
  pub short : steps_done calls ≤ steps
  pub done : (stint.ended ≡ ScriptDone) ↔ (steps_done calls ≡ steps)
  pub out_of_turns : stint.ended ≡ TurnsOut → stint.turns ≡ limit
  pub full : (stint.ended ≡ HistoryFull) ↔ (0 < found_full calls)
  pub grows : Grows old new stint.turns
  pub enough : stint.ended ≡ ScriptDone → steps ≤ stint.turns

-- what a client's worker does, on a device of these capabilities and this capacity
pub record RunsClient (caps : Caps) (capacity : ℕ) (script : List ClientStep) (limit : ℕ) (old new : SeatLog)
    (stint : Stint) : Type 0 where
  pub number : new.number ≡ old.number
  pub runs : RunsScript (NextSubmission caps capacity old script) (length script) limit old.receipts new.receipts stint
  pub accepts : total_accepted new.receipts ≤ total_accepted old.receipts + length script

-- what the administrator's worker does
abbrev pub RunsAdmin : Caps → ℕ → List Command → ℕ → List Step → List Step → Stint → Type 0
RunsAdmin caps capacity script limit old new stint =
    RunsScript (NextCommand caps capacity old script) (length script) limit old new stint

-- what an engine's worker does in at most `limit` turns, in some of which it may call nothing
pub record RunsEngine (caps : Caps) (capacity : ℕ) (script : EngineScript) (limit : ℕ) (old new : SeatLog)
    (stint : Stint) : Type 0 where
  pub turns : List (Option Step)
  pub number : new.number ≡ old.number
  pub receipts : new.receipts ≡ old.receipts ++ stored_steps (calls_of turns)
  pub in_order : InOrder (NextTurn caps capacity old script) turns
  pub stops : InOrder (λ before turn. found_full (calls_of before) ≡ 0) turns
  pub count : length turns ≡ stint.turns
  pub within : stint.turns ≤ limit
  pub out_of_turns : stint.ended ≡ TurnsOut → stint.turns ≡ limit
  pub full : (stint.ended ≡ HistoryFull) ↔ (0 < found_full (calls_of turns))
  pub unscripted : stint.ended ≢ ScriptDone
  pub grows : Grows old.receipts new.receipts stint.turns

-- a script for each seat, and a seat for each script
pub record IsFitting (clients engines client_scripts engine_scripts : ℕ) (admin : Option (List Step)) : Type 0 where
  pub each_client : clients ≡ client_scripts
  pub each_engine : engines ≡ engine_scripts
  pub has_admin : IsSome admin

-- what the report says of a worker
abbrev pub stint_at : {A : Type 0} → RunReport A → ℕ → Stint
stint_at report worker = record {
  turns = slice_index_or report.turns.items worker 0;
  ended =
      slice_index_or report.ended.items worker TurnsOut;
}

-- the receipts of the administrator's seat
abbrev pub receipts_in : Option (List Step) → List Step
receipts_in seat = option_map_or (λ receipts. receipts) seat []

-- in each lane, a client's worker runs the script of the same place, in at most `limit` turns
abbrev pub RunsClients : {A : Type 0} → Caps → ℕ → List (Vec ClientStep) → ℕ → (old new : List (Lane SeatLog A))
    → Type 0
RunsClients {A} caps capacity scripts limit old new =
    (k : ℕ) (d : Lane SeatLog A) (e : Vec ClientStep) → k < length old
    → RunsClient caps capacity (slice_index_or scripts k e).items limit
    (slice_index_or old k d).seat (slice_index_or new k d).seat (slice_index_or new k d).stint

-- in each lane, an engine's worker runs the script of the same place, in at most `limit` turns
abbrev pub RunsEngines : {A : Type 0} → Caps → ℕ → List EngineScript → ℕ → (old new : List (Lane SeatLog A))
    → Type 0
RunsEngines {A} caps capacity scripts limit old new =
    (k : ℕ) (d : Lane SeatLog A) (e : EngineScript) → k < length old
    → RunsEngine caps capacity (slice_index_or scripts k e) limit
    (slice_index_or old k d).seat (slice_index_or new k d).seat (slice_index_or new k d).stint

-- on each seat, a client's worker runs the script of the same place, and the report has its stint
abbrev pub ReportsClients : {A : Type 0} → Caps → ℕ → List (Vec ClientStep) → ℕ → (old new : List SeatLog)
    → RunReport A → Type 0
ReportsClients caps capacity scripts limit old new report =
    (k : ℕ) (d : SeatLog) (e : Vec ClientStep) → k < length old
    → RunsClient caps capacity (slice_index_or scripts k e).items limit
    (slice_index_or old k d) (slice_index_or new k d) (stint_at report k)

-- on each seat, an engine's worker runs the script of the same place, and the report has its stint
-- behind those of the clients
abbrev pub ReportsEngines : {A : Type 0} → Caps → ℕ → List EngineScript → ℕ → (clients : ℕ)
    → (old new : List SeatLog) → RunReport A → Type 0
ReportsEngines caps capacity scripts limit clients old new report =
    (k : ℕ) (d : SeatLog) (e : EngineScript) → k < length old
    → RunsEngine caps capacity (slice_index_or scripts k e) limit
    (slice_index_or old k d) (slice_index_or new k d) (stint_at report (clients + k))
