-- The sentence of each reason.
use Rattle.dsa_queues.specs.declared.reasons.SubmitReason.TheVariants as submit
use Rattle.dsa_admin.specs.declared.reasons.IssueReason.TheVariants as issue
use Rattle.dsa_admin.specs.declared.reasons.PollReason.TheVariants as poll
use Rattle.dsa_engines.specs.declared.reasons.EngineReason.TheVariants as engine
use Rattle.dsa_engines.specs.declared.reasons.QueueReason.TheVariants as queue
use Rattle.dsa_engines.specs.declared.reasons.FetchReason.TheVariants as fetch
use Rattle.dsa_engines.specs.declared.reasons.StartReason.TheVariants as start
use Rattle.dsa_engines.specs.declared.reasons.FinishReason.TheVariants as finish
use Rattle.dsa_explain.specs.declared.done.DoneReason.TheVariants as done
use Rattle.dsa_regs.specs.declared.reasons.CheckReason.TheVariants as check
use Rattle.dsa_regs.specs.declared.reasons.Named.TheVariants as named
use Rattle.dsa_regs.specs.declared.reasons.Bound.TheVariants as bound
use Rattle.dsa_queues.specs.declared.reasons.WriteReason.TheVariants as write
use Rattle.dsa_queues.specs.declared.reasons.ClearReason.TheVariants as clear
use Rattle.std.specs.Prelude.{ℕ, Bool, true, false, List, [], ◌∷◌, ◌++◌, flat_map, Option, Some, None, codes, decimal}
use Rattle.std.specs.Prelude.{◌*◌, ◌^◌, ◌==◌, cond, nat_lt, Result, Ok, Err}
use Rattle.std.specs.{Fmt.{digits}, Option.{option_map_or}}
use Rattle.dsa_desc.specs.Descriptor.{operation_row}
use Rattle.dsa_explain.specs.declared.done.DoneReason.{DoneReason}
use Rattle.dsa_regs.specs.{declared.Fault.{Fault}, Command.{command_label, command_of}}
use Rattle.dsa_book.specs.declared.fate.Fate.{Fate, TheVariants.{Completed, Aborted, Abandoned}}
use Rattle.dsa_regs.specs.declared.{Command.{Command}, Phase.{Phase}, layout.ListUse.{ListUse}}
use Rattle.dsa_book.specs.declared.event.{Portal.{Portal}}
use Rattle.dsa_event_text.specs.Text.{command_with_operand, count_text, list_text, phase_word, portal_label}
use Rattle.dsa_queues.specs.declared.reasons.SubmitReason.{SubmitReason}
use Rattle.dsa_admin.specs.declared.reasons.{IssueReason.{IssueReason}, PollReason.{PollReason}}
use Rattle.dsa_engines.specs.declared.reasons.{EngineReason.{EngineReason}, QueueReason.{QueueReason}}
use Rattle.dsa_engines.specs.declared.reasons.{FetchReason.{FetchReason}, StartReason.{StartReason}}
use Rattle.dsa_engines.specs.declared.reasons.FinishReason.{FinishReason}
use Rattle.dsa_buffers.specs.declared.want.BufferWant.{BufferWant}
use Rattle.dsa_regs.specs.declared.reasons.{CheckReason.{CheckReason}, Named.{Named}, Bound.{Bound}}
use Rattle.dsa_explain.specs.declared.{held.ListedEntry.{ListedEntry}}
use Rattle.dsa_queues.specs.declared.reasons.{WriteReason.{WriteReason}, ClearReason.{ClearReason}}

-- ---- what several sentences have

-- a text with a number in it
abbrev pub counted : List ℕ → ℕ → List ℕ → List ℕ
counted before n after = before ++ decimal n ++ after

-- a text with two numbers in it
abbrev pub counted_twice : List ℕ → ℕ → List ℕ → ℕ → List ℕ → List ℕ
counted_twice before m between n after = before ++ decimal m ++ (between ++ decimal n ++ after)

-- a text and a phase
abbrev pub phased : List ℕ → Phase → List ℕ
phased before phase = before ++ phase_word phase

abbrev pub no_engine : ℕ → List ℕ
no_engine e = codes "the device has no e" ++ decimal e

abbrev pub no_group : ℕ → List ℕ
no_group e = counted (codes "e") e (codes " is of no group")

abbrev pub no_queue : ℕ → List ℕ
no_queue e = counted (codes "e") e (codes " is of a group without a queue")

-- the numbers by which read buffers do not fit a group
abbrev pub want_words : BufferWant → List ℕ
want_words want =
    count_text (codes "needs ") want.asked (codes "read buffer") (codes "read buffers")
    ++ counted (codes ", group ") want.group (codes "")
    ++ counted_twice (codes " uses ") want.used (codes " of ") want.allowed (codes "")
    ++ counted_twice (codes ", all groups use ") want.in_use (codes " of ") want.buffers (codes "")
    ++ count_text (codes ", and ") want.kept (codes "is kept") (codes "are kept")

-- so many read buffers are kept for the group
abbrev pub kept_words : ℕ → ℕ → List ℕ
kept_words kept g = counted_twice (codes ", ") kept (codes " for group ") g (codes "")

-- ---- submissions

abbrev pub mode_words : Bool → List ℕ
mode_words true = codes " is dedicated, and takes movdir"
mode_words false = codes " is shared, and takes enqcmd"

-- of a device in this phase with the queue in that one, where it has the queue
abbrev pub enabled_words : ℕ → Phase → Option Phase → List ℕ
enabled_words q device None = codes "the device has no q" ++ decimal q
enabled_words q device (Some phase) =
    phased (codes "the device is ") device ++ (codes ", and q" ++ decimal q) ++ phased (codes " is ") phase

-- of a queue that holds so many, through the portal with that limit
abbrev pub at_limit_words : ℕ → ℕ → ℕ → Portal → List ℕ
at_limit_words q occupancy limit portal =
    counted (codes "q") q (codes "") ++ count_text (codes " holds ") occupancy (codes "entry") (codes "entries")
    ++ codes ", and the " ++ portal_label portal ++ (codes " portal goes up to " ++ decimal limit)

-- of the queue
abbrev pub submit_sentence : ℕ → SubmitReason → List ℕ
submit_sentence q (submit.NotEnabled device phase) = enabled_words q device phase
submit_sentence q (submit.WrongKind dedicated) = counted (codes "q") q (mode_words dedicated)
submit_sentence q (submit.AtLimit occupancy limit portal) = at_limit_words q occupancy limit portal

-- ---- engines

-- of the engine
abbrev pub engine_sentence : ℕ → EngineReason → List ℕ
engine_sentence e engine.NoEngine = no_engine e
engine_sentence e engine.NoGroup = no_group e

-- the front of a queue, by its name, and what it is
abbrev pub front_words : ℕ → ℕ → List ℕ → List ℕ
front_words q name after = counted_twice (codes "q") q (codes "'s front ") name after

-- of the queue and the name at its front
abbrev pub queue_sentence : ℕ → ℕ → QueueReason → List ℕ
queue_sentence q name queue.Empty = counted (codes "q") q (codes " is empty")
queue_sentence q name (queue.NoSlot used slots) =
    front_words q name (codes " waits for a slot, of which ")
    ++ decimal used ++ count_text (codes " of ") slots (codes "is in use") (codes "are in use")
queue_sentence q name (queue.NoBuffers want) = front_words q name (codes " ") ++ want_words want
queue_sentence q name (queue.OtherBatch batch) =
    front_words q name (codes " is a batch") ++ counted (codes ", and the engine works on batch ") batch (codes "")
queue_sentence q name (queue.OtherDrain drain) =
    front_words q name (codes " is a drain")
    ++ counted (codes ", and drain ") drain (codes " is in progress on the engine")

abbrev pub closed_words : Bool → List ℕ
closed_words true = codes ", and the rest is abandoned"
closed_words false = []

-- how many members of its batch the engine has fetched
abbrev pub fetched_words : ℕ → ℕ → ℕ → List ℕ
fetched_words e fetched count =
    counted_twice (codes "e") e (codes " has fetched ") fetched (codes "")
    ++ count_text (codes " of ") count (codes "member") (codes "members")

-- of the engine
abbrev pub fetch_sentence : ℕ → FetchReason → List ℕ
fetch_sentence e fetch.NoEngine = no_engine e
fetch_sentence e fetch.NoBatch = counted (codes "e") e (codes " works on no batch")
fetch_sentence e (fetch.AllFetched count fetched closed) = fetched_words e fetched count ++ closed_words closed

-- the member that failed, where its fate says which
abbrev pub failed_words : Option ℕ → List ℕ
failed_words None = codes "a member"
failed_words (Some name) = codes "member " ++ decimal name

-- of the engine
abbrev pub start_sentence : ℕ → StartReason → List ℕ
start_sentence e start.Nothing = counted (codes "no member waits on e") e (codes "")
start_sentence e (start.Fence member waits_for) =
    counted_twice (codes "member ") member (codes " has a fence, and waits for ") waits_for (codes "")
start_sentence e (start.Failed member failed left) =
    counted (codes "member ") member (codes " has a fence, ") ++ failed_words failed
    ++ count_text (codes " before it failed, and ") left (codes "ends unstarted") (codes "end unstarted")
start_sentence e (start.NoBuffers want) = codes "the member " ++ want_words want
start_sentence e start.NoGroup = no_group e

-- of the engine
abbrev pub finish_sentence : ℕ → FinishReason → List ℕ
finish_sentence e finish.NoEngine = no_engine e
finish_sentence e finish.NoEntry = codes "the cell of the ticket holds no entry"
finish_sentence e (finish.OtherName name) = counted (codes "the cell of the ticket holds ") name (codes " by now")
finish_sentence e (finish.Elsewhere list) = codes "the entry stands in " ++ list_text list
finish_sentence e finish.NotStarted = codes "the member has not started"
finish_sentence e (finish.MembersLeft left) =
    count_text (codes "") left (codes "member has not ended") (codes "members have not ended")
finish_sentence e (finish.StillToFetch fetched count) = fetched_words e fetched count
finish_sentence e (finish.DrainWaits first) = counted (codes "the drain waits for ") first (codes "")

-- ---- entries that end without success

-- the operation is none, or is none for a batch
abbrev pub unsupported_words : ℕ → List ℕ
unsupported_words op = option_map_or (λ row. row.word ++ codes " is not supported in a batch")
    (operation_row op) (codes "operation 0x" ++ digits 16 false op ++ codes " is not supported")

-- two to the power of the shift, where it has at most 32 bits
abbrev pub power_words : ℕ → List ℕ
power_words shift = cond (nat_lt shift 32) (decimal (2 ^ shift)) (codes "2^" ++ decimal shift)

-- a number below the least that it may be, or above this limit of the queue
abbrev pub outside_limit_words : List ℕ → ℕ → ℕ → List ℕ → ℕ → ℕ → List ℕ
outside_limit_words before n least limit shift q = counted before n (cond (nat_lt n least)
    (codes " is below " ++ decimal least)
    (codes " is above " ++ power_words shift ++ (limit ++ decimal q)))

-- a status in two hexadecimal digits
abbrev pub status_digits : ℕ → List ℕ
status_digits status = cond (nat_lt status 16) (codes "0") [] ++ digits 16 false status

-- how many there are, where one is not all of them
abbrev pub first_of_words : ℕ → List ℕ
first_of_words count = cond (nat_lt count 2) [] (codes ", the first of " ++ decimal count)

-- the first of so many members that failed, with its status
abbrev pub members_failed_words : ℕ → ℕ → ℕ → List ℕ
members_failed_words first status failed =
    counted (codes "member ") first (codes " ended with ") ++ status_digits status ++ first_of_words failed

abbrev pub done_sentence : DoneReason → List ℕ
done_sentence (done.NotSupported op) = unsupported_words op
done_sentence done.FenceOutside = codes "a fence outside a batch"
done_sentence (done.SizeOutside size shift q) =
    outside_limit_words (codes "size ") size 1 (codes ", the transfer limit of q") shift q
done_sentence (done.CountOutside count shift q) =
    outside_limit_words (codes "count ") count 2 (codes ", the batch limit of q") shift q
done_sentence (done.MembersFailed first status failed) = members_failed_words first status failed
done_sentence done.FailureForgotten = codes "a member failed"
done_sentence done.PageFault = codes "page fault"

-- ---- entries that are gone

-- by the command of which this is the word, without an operand
abbrev pub by_words : Result Command Fault → List ℕ
by_words (Ok command) = codes " by " ++ command_label command
by_words (Err fault) = []

abbrev pub fate_verb : Fate → List ℕ
fate_verb (Completed status) = codes " has completed"
fate_verb (Aborted command) = codes " was aborted"
fate_verb Abandoned = codes " was abandoned"

abbrev pub cause_words : Fate → List ℕ
cause_words (Aborted command) = by_words (command_of (command * 2 ^ 20))
cause_words fate = []

-- how the entry of this name ended
abbrev pub fate_sentence : ℕ → Fate → List ℕ
fate_sentence name fate = decimal name ++ fate_verb fate ++ cause_words fate

abbrev pub unnamed_sentence : ℕ → List ℕ
unnamed_sentence name = codes "no entry has the name " ++ decimal name

-- ---- commands

-- a field of a queue is above what it may be
abbrev pub above_words : List ℕ → ℕ → ℕ → List ℕ → ℕ → List ℕ
above_words field q value bound most =
    field ++ decimal q ++ counted_twice (codes " is ") value bound most (codes "")

-- of a queue
abbrev pub queue_check_words : CheckReason → List ℕ
queue_check_words (check.SizeZero q) = counted (codes "the size of q") q (codes " is 0")
queue_check_words (check.PriorityZero q) = counted (codes "the priority of q") q (codes " is 0")
queue_check_words (check.PriorityTooLarge q priority) =
    above_words (codes "the priority of q") q priority (codes ", above ") 15
queue_check_words (check.ThresholdZero q) = counted (codes "the threshold of q") q (codes " is 0")
queue_check_words (check.ThresholdAboveSize q threshold size) =
    above_words (codes "the threshold of q") q threshold (codes ", above its size of ") size
queue_check_words (check.BatchTooLarge q asked most) =
    above_words (codes "the batch shift of q") q asked (codes ", above the device's ") most
queue_check_words (check.TransferTooLarge q asked most) =
    above_words (codes "the transfer shift of q") q asked (codes ", above the device's ") most
queue_check_words (check.NoGroup q) = counted (codes "no group has q") q (codes "")
queue_check_words _ = []

-- a queue or an engine
abbrev pub name_words : Named → List ℕ
name_words (named.Queue q) = codes "q" ++ decimal q
name_words (named.Engine e) = codes "e" ++ decimal e

-- how many queues or engines the device has
abbrev pub has_words : Named → ℕ → List ℕ
has_words (named.Queue q) count = count_text (codes ", and the device has ") count (codes "queue") (codes "queues")
has_words (named.Engine e) count =
    count_text (codes ", and the device has ") count (codes "engine") (codes "engines")

-- the group names it, and the device has this number of them
abbrev pub missing_words : ℕ → Named → ℕ → List ℕ
missing_words group name count =
    counted (codes "group ") group (codes " names ") ++ name_words name ++ has_words name count

-- both groups name it
abbrev pub shared_words : Named → ℕ → ℕ → List ℕ
shared_words name first second =
    name_words name ++ counted_twice (codes " is in group ") first (codes " and in group ") second (codes "")

-- the bound that a number of read buffers breaks
abbrev pub bound_words : Bound → List ℕ
bound_words (bound.Reserved reserved) = counted (codes "below the ") reserved (codes " that it reserves")
bound_words (bound.Unreserved left) = counted (codes "above the ") left (codes " that others leave")
bound_words bound.Need = codes "below the 4 that a descriptor may need"

-- how many read buffers the group may use, which breaks the bound
abbrev pub outside_words : ℕ → ℕ → Bound → List ℕ
outside_words group allowed broken =
    counted (codes "group ") group (codes "")
    ++ count_text (codes " may use ") allowed (codes "read buffer") (codes "read buffers")
    ++ codes ", " ++ bound_words broken

-- of the device, of a group, or of a queue
abbrev pub check_sentence : CheckReason → List ℕ
check_sentence (check.NamesMissing group named count) = missing_words group named count
check_sentence (check.SizesTooLarge sizes total) =
    counted_twice (codes "the sizes of the queues are ") sizes (codes ", of ") total (codes "")
check_sentence (check.TwoGroups named first second) = shared_words named first second
check_sentence (check.ReservedTooMany reserved total) =
    count_text (codes "the groups reserve ") reserved (codes "read buffer") (codes "read buffers")
    ++ counted (codes ", of ") total (codes "")
check_sentence (check.AllowedOutOfRange group allowed bound) = outside_words group allowed bound
check_sentence (check.GroupWithoutEngine group) = counted (codes "group ") group (codes " has a queue and no engine")
check_sentence (check.GroupWithoutQueue group) = counted (codes "group ") group (codes " has an engine and no queue")
check_sentence reason = queue_check_words reason

-- the queue that is named, or none
abbrev pub named_words : Option ℕ → List ℕ
named_words None = codes "no queue is named"
named_words (Some q) = codes "the device has no q" ++ decimal q

-- whose phase it is: of a queue, or of the device
abbrev pub whose_words : Option ℕ → List ℕ
whose_words None = codes "the device"
whose_words (Some q) = codes "q" ++ decimal q

-- an entry, by its name and its list
abbrev pub held_words : ListedEntry → List ℕ
held_words held = counted (codes "") held.entry.name (codes " in ") ++ list_text held.list

-- the first that is awaited
abbrev pub first_words : Option ListedEntry → List ℕ
first_words None = []
first_words (Some held) = codes ", first for " ++ held_words held

-- how many entries the active command waits for, and the first of them
abbrev pub busy_words : ℕ → Option ListedEntry → List ℕ
busy_words awaited first =
    count_text (codes " is active, and waits for ") awaited (codes "entry") (codes "entries") ++ first_words first

abbrev pub ended_words : List ℕ
ended_words = codes " has ended, and no poll has reported it"

-- the active command, and what it waits for, or that nothing is left
abbrev pub active_words : Command → ℕ → Option ListedEntry → List ℕ
active_words active awaited first = command_with_operand active
    ++ cond (awaited == 0) ended_words (busy_words awaited first)

-- with the first entry that is awaited
abbrev pub issue_sentence : Option ListedEntry → IssueReason → List ℕ
issue_sentence first (issue.Busy active awaited) = active_words active awaited first
issue_sentence first (issue.NoQueue q) = named_words q
issue_sentence first (issue.WrongPhase q phase) = whose_words q ++ phased (codes " is ") phase
issue_sentence first (issue.Check reason) = check_sentence reason

-- how many entries the command waits for
abbrev pub wait_count : ℕ → List ℕ
wait_count awaited = count_text (codes "the command waits for ") awaited (codes "entry") (codes "entries")

-- with the first entry that is awaited
abbrev pub poll_sentence : Option ListedEntry → PollReason → List ℕ
poll_sentence first poll.Nothing = codes "no command is active"
poll_sentence first (poll.Waits awaited) = wait_count awaited ++ first_words first

-- ---- names, list by list

-- what stands before the first name of a list
abbrev pub list_head : List ℕ → List ℕ → ListUse → List ℕ
list_head mark verb list = mark ++ (list_text list ++ verb)

-- the names of some entries of a list, the first behind the mark, the list and the verb; nothing where there are none
abbrev pub list_words : List ℕ → List ℕ → ListUse → List ℕ → List ℕ
list_words mark verb list [] = []
list_words mark verb list (first ∷ others) =
    (list_head mark verb list ++ decimal first) ++ flat_map (λ name. codes ", " ++ decimal name) others

-- ---- configurations

abbrev pub device_words : Phase → List ℕ
device_words phase = phased (codes "the device is ") phase

-- what is written, as one and as many: a queue or a group
abbrev pub write_sentence : List ℕ → List ℕ → WriteReason → List ℕ
write_sentence one many (write.BadIndex count) = count_text (codes "the device has ") count one many
write_sentence one many (write.LockedQueue phase) = phased (codes "the queue is ") phase
write_sentence one many (write.LockedSize phase size) =
    device_words phase ++ counted (codes ", and the size stays ") size (codes "")
write_sentence one many (write.LockedGroup phase) = device_words phase

abbrev pub clear_sentence : ClearReason → List ℕ
clear_sentence clear.NothingNoted = codes "no error is noted"
