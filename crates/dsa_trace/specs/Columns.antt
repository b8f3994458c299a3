-- What a line shows of the state.
use Rattle.std.specs.Prelude.{ℕ, ◌==◌, ◌&&◌, ◌^◌, if◌then◌else◌, Bool, false, List, [], ◌++◌, length, Option, Some, decimal}
use Rattle.std.specs.Prelude.{flat_map, is_none}
use Rattle.std.specs.Option.{option_map}
use Rattle.dsa_base.specs.Numbers.{numbers_below}
use Rattle.dsa_regs.specs.declared.{Caps.{Caps}, Command.{Command}, Phase.{Phase}}
use Rattle.dsa_regs.specs.declared.{QueueConfig.{QueueConfig}, GroupConfig.{GroupConfig}}
use Rattle.dsa_regs.specs.Config.{queue_at, group_at}
use Rattle.dsa_store.specs.Content.{HeldEntry, chain}
use Rattle.dsa_book.specs.{State.{State, occupancy, phase_at}, Work.{used, group_of_engine, in_progress, members, note_at}}
use Rattle.dsa_book.specs.declared.note.BatchNote.{BatchNote}
use Rattle.dsa_device.specs.Reads.{awaited}
use Rattle.dsa_event_text.specs.Text.{command_with_operand, phase_word}
use Rattle.dsa_trace.specs.declared.form.{Trace.{Trace, TheVariants.{Table, Json, Changes}}, Part.{Part}, Items.{Items}}
use Rattle.dsa_trace.specs.declared.form.Items.TheVariants.{Queues, Engines, Groups}
use Rattle.dsa_trace.specs.declared.form.Part.TheVariants as part
use Rattle.dsa_trace.specs.{Marks.{mark, comma, pad}, Names.{names_array}, Notes.{batch_part}, Errors.{error_part}}

-- a number behind its mark
abbrev pub marked : Trace → Part → ℕ → List ℕ
marked form part n = mark form part ++ decimal n

-- a number behind its mark; in a row it is as wide as the greatest one
abbrev pub aligned : Trace → Part → ℕ → ℕ → List ℕ
aligned form part n most = mark form part ++ pad form n most ++ decimal n

-- ---- what is left out

-- the table leaves out a queue that has no size
abbrev pub is_left_out : Trace → QueueConfig → Bool
is_left_out Table config = config.size == 0
is_left_out _ config = false

-- an engine that is of no group
abbrev pub is_unplaced : Trace → Option ℕ → Bool
is_unplaced Table group = is_none group
is_unplaced _ group = false

-- a group that has neither a queue nor an engine
abbrev pub is_unused : Trace → GroupConfig → Bool
is_unused Table config = config.queues == 0 && config.engines == 0
is_unused _ config = false

-- and the threshold of a dedicated queue, which has no effect
abbrev pub threshold_text : Trace → QueueConfig → List ℕ
threshold_text Table config = if config.dedicated then [] else marked Table part.Threshold config.threshold
threshold_text form config = marked form part.Threshold config.threshold

-- ---- of a queue, an engine, a group, a command

-- a phase behind its mark; a row shows none
abbrev pub phase_text : Trace → Part → Phase → List ℕ
phase_text Json part phase = mark Json part ++ phase_word phase
phase_text _ part phase = []

-- the limits of a queue's portals
abbrev pub limits_text : Trace → QueueConfig → List ℕ
limits_text form config = threshold_text form config ++ marked form part.Size config.size

-- the phase of a queue
abbrev pub queue_phase : Trace → Phase → List ℕ
queue_phase form phase = phase_text form part.QueuePhase phase ++ mark form part.TextEnd

-- how many entries wait in a queue, against the limits of its portals, and its phase
abbrev pub queue_text : Trace → ℕ → ℕ → QueueConfig → Phase → List ℕ
queue_text form queue waiting config phase = if is_left_out form config then [] else
    (comma form queue ++ marked form part.Queue queue ++ aligned form part.Occupancy waiting config.size
    ++ limits_text form config ++ queue_phase form phase)

-- how many slots of an engine are in use, of how many, and how many members of its batch have not ended
abbrev pub engine_text : Trace → Caps → ℕ → ℕ → ℕ → List ℕ
engine_text form caps engine taken left =
    comma form engine ++ marked form part.Engine engine ++ aligned form part.InProgress taken caps.slots
    ++ marked form part.Slots caps.slots ++ aligned form part.Members left (2 ^ caps.max_batch_shift)

-- the names of the entries that wait in a queue, the front first, and the end of its column
abbrev pub waiting_text : Trace → List HeldEntry → List ℕ
waiting_text form entries = names_array form part.Waiting entries ++ mark form part.ObjectEnd

-- the names of what an engine has in progress, the oldest first, and of the members of its batch that have not ended,
-- what is noted of the batch, and the end of the engine's column
abbrev pub work_text : Trace → List HeldEntry → List HeldEntry → Option BatchNote → List ℕ
work_text form taken left note =
    names_array form part.Names taken ++ names_array form part.MemberNames left ++ batch_part form note
    ++ mark form part.ObjectEnd

-- how many read buffers are reserved for a group; a row does not show it
abbrev pub reserved_text : Trace → ℕ → List ℕ
reserved_text Json reserved = marked Json part.Reserved reserved
reserved_text _ reserved = []

-- how many read buffers a group has in use, of how many allowed ones, and how many are reserved for it
abbrev pub group_text : Trace → ℕ → ℕ → GroupConfig → List ℕ
group_text form group taken config = if is_unused form config then [] else
    (comma form group ++ marked form part.Group group ++ aligned form part.Used taken config.allowed
    ++ marked form part.Allowed config.allowed ++ reserved_text form config.reserved ++ mark form part.ObjectEnd)

-- where no command is active, a row says nothing of it, and a row of changes that there is none
abbrev pub absent_command : Trace → Part
absent_command Changes = part.NoMoreCommand
absent_command _ = part.NoCommand

-- the command that is not over, and how many entries it waits for
abbrev pub command_text : Trace → Option Command → Option ℕ → List ℕ
command_text form (Some command) (Some count) =
    mark form part.Active ++ command_with_operand command ++ marked form part.Awaited count ++ mark form part.ObjectEnd
command_text form _ _ = mark form (absent_command form)

-- ---- of a state

-- how many of these the device has
abbrev pub item_count : Caps → Items → ℕ
item_count caps Queues = caps.queues
item_count caps Engines = caps.engines
item_count caps Groups = caps.groups

-- the text of the queue, the engine or the group of this number
abbrev pub item_text : Trace → Caps → State → Items → ℕ → List ℕ
item_text form caps s Queues q =
    queue_text form q (occupancy s.work.content q) (queue_at s.work.setup.configs q) (phase_at s.work.setup q)
    ++ waiting_text form (chain s.work.content q)
item_text form caps s Engines e = if is_unplaced form (group_of_engine s.work e) then [] else
    (engine_text form caps e (length (in_progress s.work e)) (length (members s.work e))
    ++ work_text form (in_progress s.work e) (members s.work e) (note_at s.work e))
item_text form caps s Groups g = group_text form g (used s.work g) (group_at s.work.setup.groups g)

-- the mark of an array, and all its items
abbrev pub items_text : Trace → Caps → State → Items → List ℕ
items_text form caps s kind =
    mark form (part.Items kind) ++ flat_map (item_text form caps s kind) (numbers_below (item_count caps kind))

-- the columns of a row: the queues, the engines and the groups (profile)
abbrev pub row_columns : Trace → Caps → State → List ℕ
row_columns form caps s =
    items_text form caps s Queues ++ items_text form caps s Engines ++ items_text form caps s Groups

abbrev pub command_column : Trace → State → List ℕ
command_column form s = command_text form (option_map (λ active. active.command) s.active) (awaited s)

-- what is told of a state: the phase of the device, the noted error, the queues, engines and groups that it has, and
-- the active command; of a JSON object these are members (profile)
abbrev pub state_members : Trace → Caps → State → List ℕ
state_members form caps s =
    phase_text form part.DevicePhase s.work.setup.device ++ error_part form s.work.setup.noted
    ++ row_columns form caps s ++ command_column form s

-- the JSON object that has these members and no other (profile)
abbrev pub state_object : Caps → State → List ℕ
state_object caps s = mark Json part.StateStart ++ state_members Json caps s ++ mark Json part.ObjectEnd
