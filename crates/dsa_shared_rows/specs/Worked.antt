-- Steps, seats, devices and totals of which the rows speak.
use Rattle.std.proofs.Common.{arith, refl}
use denote.RawPtr.{null_ptr}
use Rattle.std.specs.Prelude.{ℕ, ◌≤◌, List, [], ◌∷◌, ◌++◌, length, replicate, Option, None, Some}
use Rattle.std.specs.declared.{alloc.Global.{Global}, vec.Vec.{Vec}}
use Rattle.dsa_desc.specs.declared.{Descriptor.{Descriptor}, Outcome.TheVariants.{Success, PageFault}}
use Rattle.dsa_regs.specs.declared.{Caps.{Caps}, Command.TheVariants.{DrainAll, EnableDevice, EnableWq}}
use Rattle.dsa_regs.specs.Worked.{caps, dedicated_queue, first_group}
use Rattle.dsa_book.specs.State.{Work, opening}
use Rattle.dsa_book.specs.declared.answer.Cause.TheVariants.{AtLimit}
use Rattle.dsa_book.specs.declared.answer.FetchAnswer.TheVariants.{Fetched}
use Rattle.dsa_book.specs.declared.answer.FinishAnswer.{FinishAnswer, TheVariants.{Done}}
use Rattle.dsa_book.specs.declared.answer.{IssueAnswer.{IssueAnswer, TheVariants.{Ended}}, PollAnswer.{PollAnswer}}
use Rattle.dsa_book.specs.declared.answer.Reply.{Reply}
use Rattle.dsa_book.specs.declared.answer.Reply.TheVariants.{Submit, Dispatch, Fetch, Start, Finish, Issue, Poll, Write}
use Rattle.dsa_book.specs.declared.answer.SubmitAnswer.{SubmitAnswer, TheVariants.{Accepted, Retry}}
use Rattle.dsa_book.specs.declared.answer.{Ticket.{Ticket}, WriteAnswer.TheVariants.{Written}}
use Rattle.dsa_book.specs.declared.event.Event.TheVariants.{Submit, Dispatch, Fetch, Start, Finish, Issue, Poll}
use Rattle.dsa_book.specs.declared.event.Event.TheVariants.{WriteQueue, WriteGroup}
use Rattle.dsa_book.specs.declared.event.{Kind.TheVariants.{Movdir64b}, Portal.TheVariants.{Limited}, Step.{Step}}
use Rattle.dsa_book.specs.declared.fate.{Fate.{Fate, TheVariants.{Completed}}, FateRow.{FateRow}}
use Rattle.dsa_shared.specs.{Seat.{SeatLog}, Totals.{AreSums}, declared.settle.Totals.{Totals}}
use Rattle.dsa_workers.specs.declared.scripts.{ClientStep.{ClientStep}, EngineScript.{EngineScript}, Stint.{Stint}}
use Rattle.dsa_workers.specs.declared.scripts.WorkerEnd.{WorkerEnd, TheVariants.{ScriptDone, TurnsOut}}
use Rattle.dsa_workers.specs.{Calls.{IsCallAnswered}, declared.{scripts.RunReport.{RunReport}, lanes.Lane.{Lane}}}
use Rattle.dsa_book.specs.declared.answer.{DispatchAnswer.{DispatchAnswer}, StartAnswer.{StartAnswer}}

-- ---- steps

-- a descriptor without work
abbrev pub plain_descriptor : Descriptor
plain_descriptor = record { pasid = 0; flags = 0; op = 0; size = 0 }

-- the ticket of this name, in cell 2
abbrev pub ticket_named_so : ℕ → Ticket
ticket_named_so name = record { cell = record { 0 = 2 }; name = name }

-- this client writes a descriptor to queue 4
abbrev pub of_client : ℕ → SubmitAnswer → Step
of_client client answer = record {
  event = Submit client 4 Limited Movdir64b plain_descriptor;
  reply = Submit answer;
}

-- a submission that is accepted, and one that is to come again
abbrev pub taken_of_client : ℕ → Step
taken_of_client client = of_client client (Accepted (ticket_named_so 6))

abbrev pub again_of_client : ℕ → Step
again_of_client client = of_client client (Retry AtLimit)

-- this engine fetches a member, starts one, and ends an entry
abbrev pub fetch_of_engine : ℕ → Step
fetch_of_engine engine = record {
  event = Fetch engine plain_descriptor;
  reply = Fetch (Fetched (ticket_named_so 7));
}

abbrev pub started_by_engine : ℕ → StartAnswer → Step
started_by_engine engine answer = record { event = Start engine; reply = Start answer }

abbrev pub end_of_engine : ℕ → FinishAnswer → Step
end_of_engine engine answer = record {
  event = Finish engine (ticket_named_so 6) Success;
  reply = Finish answer;
}

-- the administrator drains all, and asks
abbrev pub drain_of_all : IssueAnswer → Step
drain_of_all answer = record { event = Issue DrainAll; reply = Issue answer }

abbrev pub question : PollAnswer → Step
question answer = record { event = Poll; reply = Poll answer }

-- ---- seats

-- the seat of this number with these receipts
abbrev pub seat_of : ℕ → List Step → SeatLog
seat_of number receipts = record { number = number; receipts = receipts }

-- two steps of client 0, one of client 1, two of engine 0, one of engine 1, and one of the administrator
abbrev pub of_all_seats : List Step
of_all_seats =
    taken_of_client 0 ∷ fetch_of_engine 0 ∷ taken_of_client 1 ∷ drain_of_all (Ended 7) ∷ again_of_client 0
    ∷ end_of_engine 1 (Done 1) ∷ end_of_engine 0 (Done 1) ∷ []

-- the seats of that history
abbrev pub two_clients : List SeatLog
two_clients = seat_of 1 (taken_of_client 1 ∷ []) ∷ seat_of 0 (taken_of_client 0 ∷ again_of_client 0 ∷ []) ∷ []

abbrev pub two_engines : List SeatLog
two_engines =
    seat_of 0 (fetch_of_engine 0 ∷ end_of_engine 0 (Done 1) ∷ []) ∷ seat_of 1 (end_of_engine 1 (Done 1) ∷ []) ∷ []

abbrev pub one_issue : List Step
one_issue = drain_of_all (Ended 7) ∷ []

-- clients of which 1 lacks its only step, and 0 its second
abbrev pub lacking_clients : List SeatLog
lacking_clients = seat_of 1 [] ∷ seat_of 0 (taken_of_client 0 ∷ []) ∷ []

-- engines of which 0 lacks its second step, and 1 its only one
abbrev pub lacking_engines : List SeatLog
lacking_engines = seat_of 1 [] ∷ seat_of 0 (fetch_of_engine 0 ∷ []) ∷ []

-- ---- totals

-- one accepted, two fetched, three to come again, four done, and seven lost
abbrev pub uneven_history : List Step
uneven_history =
    taken_of_client 0 ∷ replicate 2 (fetch_of_engine 0) ++ replicate 3 (again_of_client 0)
    ++ replicate 4 (end_of_engine 1 (Done 1)) ++ one_issue

-- the seats of that history
abbrev pub uneven_clients : List SeatLog
uneven_clients = seat_of 0 (taken_of_client 0 ∷ replicate 3 (again_of_client 0)) ∷ []

abbrev pub uneven_engines : List SeatLog
uneven_engines =
    seat_of 0 (replicate 2 (fetch_of_engine 0)) ∷ seat_of 1 (replicate 4 (end_of_engine 1 (Done 1))) ∷ []

-- its totals, where nine entries are held
abbrev pub uneven_totals : Totals
uneven_totals = record { accepted = 1; fetched = 2; retried = 3; done = 4; lost = 7; held = 9; steps = 11 }

-- these are the sums over its seats
abbrev pub UnevenSums : Totals → Type 0
UnevenSums totals = AreSums totals uneven_clients uneven_engines (Some one_issue)

-- five were accepted and one was fetched; none is done, two are lost, and four are held
abbrev pub even_totals : Totals
even_totals = record { accepted = 5; fetched = 1; retried = 3; done = 0; lost = 2; held = 4; steps = 6 }

-- the fate of an entry of this parent
abbrev pub fate_line : Option ℕ → Fate → FateRow
fate_line parent fate = record { name = 8; parent = parent; fate = fate }

-- a device that has these fates, and four more of entries that programs submitted
abbrev pub with_fates : List FateRow → Work
with_fates rows = record (opening caps).work { fates = rows ++ replicate 4 (fate_line None (Completed 1)) }

-- ---- workers

-- a device with a queue 6 and an engine 3
abbrev pub wide_device : Caps
wide_device = record caps { queues = 7; groups = 1; engines = 4 }

-- where its history has no room, the call is answered so, and not by the other reply
abbrev pub AnsweredNotBy : Step → Reply → Type 0
AnsweredNotBy call other =
    IsCallAnswered wide_device 0 [] call × ¬ IsCallAnswered wide_device 0 [] (record call { reply = other })

-- its history once queue 6 is enabled, from which engine 3 takes
abbrev pub wide_set_up : List Step
wide_set_up =
    record { event = WriteQueue 6 dedicated_queue; reply = Write Written } ∷
    record { event = WriteGroup 0 (record first_group { queues = 64; engines = 8 }); reply = Write Written } ∷
    record { event = Issue EnableDevice; reply = Issue (Ended 0) } ∷
    record { event = Issue (EnableWq 6); reply = Issue (Ended 0) } ∷ []

-- a step of a script, to this queue
abbrev pub script_step : ℕ → ClientStep
script_step queue = record { queue = queue; portal = Limited; kind = Movdir64b; bytes = replicate 64 0 }

-- the call of such a step
abbrev pub script_call : ℕ → ℕ → SubmitAnswer → Step
script_call client queue answer = record {
  event = Submit client queue Limited Movdir64b plain_descriptor;
  reply = Submit answer;
}

-- the history once client 3 has an entry in that queue
abbrev pub wide_with_entry : List Step
wide_with_entry = wide_set_up ++ script_call 3 6 (Accepted (ticket_named_so 0)) ∷ []

-- an engine's script
abbrev pub member_script : EngineScript
member_script = record { member = record plain_descriptor { size = 9 }; outcome = PageFault }

-- a member of that script is fetched
abbrev pub member_fetched : ℕ → Step
member_fetched engine = record {
  event = Fetch engine member_script.member;
  reply = Fetch (Fetched (ticket_named_so 7));
}

-- so many turns, and this end
abbrev pub stint_of : ℕ → WorkerEnd → Stint
stint_of turns ended = record { turns = turns; ended = ended }

-- what an engine asks first
abbrev pub asked_first : ℕ → DispatchAnswer → Step
asked_first engine answer = record { event = Dispatch engine; reply = Dispatch answer }

-- a list as the code has it
abbrev pub vector_of : {A : Type 0} → Global → (items : List A) → length items ≤ 9 → Vec A Global
vector_of memory items few = record {
  ptr = null_ptr;
  len = length items;
  cap = length items;
  alloc = memory;
  items = items;
  ok = (refl, omega arith);
  small = omega (arith, few);
}

-- a script without a step
abbrev pub script_vector : Global → Vec ClientStep Global
script_vector memory = vector_of memory [] (omega arith)

-- of a client that was through after four turns, and of two engines without a turn
abbrev pub report_of : Global → RunReport Global
report_of memory = record {
  turns = vector_of memory (4 ∷ 0 ∷ 0 ∷ []) (omega arith);
  ended = vector_of memory (ScriptDone ∷ TurnsOut ∷ TurnsOut ∷ []) (omega arith);
}

-- a seat with no ticket, whose worker had no turn
abbrev pub lane_of : SeatLog → Lane SeatLog Global
lane_of seat = record { seat = seat; tickets = record { tickets = []; room = 0 }; stint = stint_of 0 TurnsOut }
