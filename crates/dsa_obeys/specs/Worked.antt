-- A log of the worked script on a device with three queues, two engines and one group: its queues 1 and 2 are on, and
-- no queue has the number 3.
use Rattle.std.specs.Prelude.{ℕ, Bool, not, ◌&&◌, List, [], ◌∷◌, ◌++◌, map, is_some, take, Some}
use Rattle.std.specs.declared.alloc.Global.{Global}
use Rattle.dsa_desc.specs.declared.{Descriptor.{Descriptor}, Outcome.{Outcome, TheVariants.{Success, PageFault}}}
use Rattle.dsa_regs.specs.Worked.{shared_queue, dedicated_queue}
use Rattle.dsa_regs.specs.{Config.{zero_queue}, declared.GroupConfig.{GroupConfig}}
use Rattle.dsa_regs.specs.declared.{Command.TheVariants.{DrainAll, AbortAll}, Phase.TheVariants.{Off, On}}
use Rattle.dsa_book.specs.declared.answer.Reply.TheVariants.{Submit, Dispatch, Fetch, Start, Finish, Issue, Poll, Clear}
use Rattle.dsa_book.specs.declared.answer.SubmitAnswer.{SubmitAnswer, TheVariants.{Accepted, Retry}}
use Rattle.dsa_book.specs.declared.answer.{Cause.TheVariants.{NotEnabled}, DispatchAnswer.{DispatchAnswer}}
use Rattle.dsa_book.specs.declared.answer.DispatchAnswer.TheVariants.{Taken}
use Rattle.dsa_book.specs.declared.answer.FetchAnswer.{TheVariants.{Fetched, NoBatch, AllFetched}}
use Rattle.dsa_book.specs.declared.answer.FinishAnswer.{TheVariants.{Done}}
use Rattle.dsa_book.specs.declared.answer.StartAnswer.TheVariants.{Started}
use Rattle.dsa_book.specs.declared.answer.IssueAnswer.{TheVariants.{Ended, Active}}
use Rattle.dsa_book.specs.declared.answer.PollAnswer.{PollAnswer, TheVariants.{Active, Finished}}
use Rattle.dsa_book.specs.declared.answer.{ClearAnswer.TheVariants.{Nothing}, Ticket.{Ticket}, Reply.{Reply}}
use Rattle.dsa_book.specs.declared.event.Event.TheVariants.{Submit, Dispatch, Fetch, Start, Finish, Issue, Poll}
use Rattle.dsa_book.specs.declared.event.{Event.TheVariants.{ClearError}, Event.{Event}}
use Rattle.dsa_book.specs.declared.event.Kind.TheVariants.{Enqcmd, Movdir64b}
use Rattle.dsa_book.specs.declared.event.Portal.TheVariants.{Limited, Unlimited}
use Rattle.dsa_book.specs.{State.{State, opening}, Machine.{replay_from}}
use Rattle.dsa_keys.specs.Parties.{World, Made}
use Rattle.dsa_parties.specs.declared.places.Move.{Move}
use Rattle.dsa_parties.specs.declared.places.Move.TheVariants.{Client, Administrator, Dispatch, Fetch, Start, Finish}
use Rattle.dsa_parties.specs.{Standing.{Standing}, Good.{first_world}}
use Rattle.dsa_parties.specs.Worked.{operation_of_size, worked_script}
use Rattle.dsa_parties.specs.WorkedOffers.{three_queues_one_group}
use Rattle.dsa_obeys.specs.Obeys.{Doer, submits, does, fetches, works, LogLine, obeys}

-- ---- where the log begins

-- queues 1 and 2 with both engines
abbrev pub group_of_two : GroupConfig
group_of_two = record { queues = 6; engines = 3; reserved = 0; allowed = 16 }

-- all is on but queue 0, and nothing is held
abbrev pub state_before_log : State
state_before_log =
    let first = opening three_queues_one_group in
    record first {
      work = record first.work {
        setup = record first.work.setup {
          device = On;
          configs = zero_queue ∷ shared_queue ∷ dedicated_queue ∷ [];
          phases = Off ∷ On ∷ On ∷ [];
          groups = group_of_two ∷ [];
        };
      };
    }

-- ---- lines

-- a step, and who makes it
abbrev pub line_by : Doer → Event → Reply → LogLine
line_by doer event reply = record { step = record { event = event; reply = reply }; doer = doer }

-- the ticket of this cell and name
abbrev pub ticket_in : ℕ → ℕ → Ticket
ticket_in cell name = record { cell = record { 0 = cell }; name = name }

-- the first client, which has number 7, submits its batch, or its Fill
abbrev pub batch_line : SubmitAnswer → LogLine
batch_line answer =
    line_by (submits 0 0) (Submit 7 1 Limited (Enqcmd 5) (operation_of_size 1 2)) (Submit answer)

abbrev pub fill_line : SubmitAnswer → LogLine
fill_line answer =
    line_by (submits 0 3) (Submit 7 2 Unlimited Movdir64b (operation_of_size 4 8)) (Submit answer)

-- the second client, which has number 9, submits its Drain, and is told to retry
abbrev pub drain_line : LogLine
drain_line = line_by (submits 1 4) (Submit 9 3 Limited (Enqcmd 6) (operation_of_size 2 0)) (Submit (Retry NotEnabled))

-- an engine asks for an entry
abbrev pub dispatch_line : ℕ → DispatchAnswer → LogLine
dispatch_line engine answer = line_by works (Dispatch engine) (Dispatch answer)

-- engine 0 fetches an entry of the script with this descriptor
abbrev pub member_line : ℕ → Descriptor → Ticket → LogLine
member_line n desc ticket = line_by (fetches n) (Fetch 0 desc) (Fetch (Fetched ticket))

-- engine 0 starts a member
abbrev pub start_line : Ticket → LogLine
start_line ticket = line_by works (Start 0) (Start (Started ticket))

-- engine 0 ends an entry
abbrev pub end_line : Ticket → Outcome → ℕ → LogLine
end_line ticket outcome status = line_by works (Finish 0 ticket outcome) (Finish (Done status))

-- an administrator polls
abbrev pub line_of_a_poll : ℕ → ℕ → PollAnswer → LogLine
line_of_a_poll a k answer = line_by (does a k) Poll (Poll answer)

-- ---- the log

-- the batch is taken and its first member fetched; the second client is told to retry
abbrev pub log_first : List LogLine
log_first = batch_line (Accepted (ticket_in 0 0)) ∷ drain_line ∷ fill_line (Accepted (ticket_in 1 1))
    ∷ dispatch_line 0 (Taken (ticket_in 0 0) 1) ∷ member_line 1 (operation_of_size 3 4096) (ticket_in 2 2)
    ∷ drain_line ∷ []

-- the first member fails while a drain waits, and the second one is fetched into the same cell
abbrev pub log_second : List LogLine
log_second = start_line (ticket_in 2 2) ∷ line_by (does 0 0) (Issue DrainAll) (Issue Active)
    ∷ end_line (ticket_in 2 2) PageFault 3 ∷ member_line 2 (operation_of_size 5 64) (ticket_in 2 3) ∷ drain_line
    ∷ line_of_a_poll 0 1 Active ∷ []

-- all entries end, and the administrators come to their ends
abbrev pub log_third : List LogLine
log_third = start_line (ticket_in 2 3) ∷ end_line (ticket_in 2 3) Success 1
    ∷ line_by works (Fetch 0 (operation_of_size 0 0)) (Fetch AllFetched)
    ∷ dispatch_line 0 (Taken (ticket_in 1 1) 2) ∷ end_line (ticket_in 1 1) Success 1
    ∷ end_line (ticket_in 0 0) Success 5 ∷ line_of_a_poll 0 1 Finished
    ∷ line_by (does 0 2) ClearError (Clear Nothing) ∷ line_by (does 1 3) (Issue AbortAll) (Issue (Ended 0)) ∷ []

-- the whole
abbrev pub whole_log : List LogLine
whole_log = log_first ++ log_second ++ log_third

-- ---- what is said of logs here

-- the machine may answer so
abbrev pub may_be_answered : List LogLine → Bool
may_be_answered log = is_some (replay_from (Some state_before_log) (map (λ (line : LogLine). line.step) log))

-- the machine may answer so, and the worked script is obeyed
abbrev pub obeys_here : Global → List LogLine → Bool
obeys_here memory log = may_be_answered log && obeys (worked_script memory) state_before_log log

-- the machine may answer so, and the worked script is not obeyed
abbrev pub breaks_script : Global → List LogLine → Bool
breaks_script memory log = may_be_answered log && not (obeys (worked_script memory) state_before_log log)

-- so many lines of the log, and then another one, break the script
abbrev pub breaks_behind : Global → ℕ → LogLine → Bool
breaks_behind memory count line = breaks_script memory (take count whole_log ++ line ∷ [])

-- ---- the log as a walk

-- a move, and the reply to it
abbrev pub made_by : Move → Reply → Made Move
made_by move reply = record { move = move; reply = reply }

-- the moves of the first part
abbrev pub moves_first : List (Made Move)
moves_first = made_by (Client 0) (Submit (Accepted (ticket_in 0 0)))
    ∷ made_by (Client 1) (Submit (Retry NotEnabled)) ∷ made_by (Client 0) (Submit (Accepted (ticket_in 1 1)))
    ∷ made_by (Dispatch 0) (Dispatch (Taken (ticket_in 0 0) 1))
    ∷ made_by (Fetch 0) (Fetch (Fetched (ticket_in 2 2))) ∷ made_by (Client 1) (Submit (Retry NotEnabled)) ∷ []

-- those of the second part
abbrev pub moves_second : List (Made Move)
moves_second = made_by (Start 0) (Start (Started (ticket_in 2 2))) ∷ made_by (Administrator 0) (Issue Active)
    ∷ made_by (Finish 0 1 PageFault) (Finish (Done 3)) ∷ made_by (Fetch 0) (Fetch (Fetched (ticket_in 2 3)))
    ∷ made_by (Client 1) (Submit (Retry NotEnabled)) ∷ made_by (Administrator 0) (Poll Active) ∷ []

-- the world where the log begins, whatever labels are there
abbrev pub world_before_log : Global → World Standing
world_before_log memory = first_world (worked_script memory) (λ name. 9) state_before_log

-- the second client is told to retry, and an engine asks for a member without a batch
abbrev pub short_log : List LogLine
short_log = drain_line ∷ line_by works (Fetch 0 (operation_of_size 3 4096)) (Fetch NoBatch) ∷ []

-- the client's move alone
abbrev pub moves_of_short_log : List (Made Move)
moves_of_short_log = made_by (Client 1) (Submit (Retry NotEnabled)) ∷ []

-- the world in which the parties begin where nothing is enabled
abbrev pub world_at_opening : Global → World Standing
world_at_opening memory = first_world (worked_script memory) (λ name. 9) (opening three_queues_one_group)
