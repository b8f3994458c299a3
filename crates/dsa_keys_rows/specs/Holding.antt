-- States of a device with three queues, two engines and one group, in which something is held.
use Rattle.std.specs.Prelude.{ℕ, ◌+◌, ◌==◌, Bool, true, false, List, [], ◌∷◌, replicate, get_or, find, Option, Some}
use Rattle.std.specs.Prelude.{None}
use Rattle.std.specs.Prelude.{cond, option_map, unwrap_or}
use Rattle.dsa_regs.specs.declared.{Command.{Command, TheVariants.{DrainAll}}, Phase.TheVariants.{On}}
use Rattle.dsa_regs.specs.{Config.{zero_queue}, Worked.{shared_queue}}
use Rattle.dsa_store.specs.{declared.entry.Entry.{Entry}, Content.{HeldEntry, Content}}
use Rattle.dsa_book.specs.declared.note.{BatchNote.{BatchNote}, ActiveCommand.{ActiveCommand}}
use Rattle.dsa_book.specs.declared.{fate.FateRow.{FateRow}, event.Kind.TheVariants.{Enqcmd, Movdir64b}}
use Rattle.dsa_book.specs.State.{Setup, Work, State, opening_setup}
use Rattle.dsa_worked.specs.Setup.{no_op, move, batch, drain, held_entry, with_list}
use Rattle.dsa_worked.specs.Uneven.{three_two_one}
use Rattle.dsa_keys.specs.{Labels.{Labels}, Short.{Descriptions}}

-- ---- labels

-- the label of a name is 100 more
abbrev pub hundreds : Labels
hundreds = λ name. name + 100

-- the labels of the first names, in order; 0 for all others
abbrev pub listed : List ℕ → Labels
listed labels = λ name. get_or labels name 0

-- the labels of these names; 0 for all others
abbrev pub paired : List (ℕ × ℕ) → Labels
paired pairs = λ name. unwrap_or (option_map (λ pair. pair.1) (find (λ pair. pair.0 == name) pairs)) 0

-- ---- states

-- the set-up with three shared queues and this next name, and with the device On
abbrev pub set_up_at : ℕ → Setup
set_up_at next_name = record (opening_setup three_two_one) {
  device = On;
  configs = replicate 3 shared_queue;
  next_name = next_name;
}

-- no list has an entry: three lists of queues, two of what is in progress, and two of members
abbrev pub no_lists : Content
no_lists = replicate 7 []

-- the state with these entries and notes, and with this active command, after twenty names
abbrev pub state_by : Content → List (Option BatchNote) → Option ActiveCommand → State
state_by content notes active = record {
  work = record { setup = set_up_at 20; content = content; notes = notes; fates = [] };
  active = active;
}

-- the same with no notes and no command
abbrev pub state_of_lists : Content → State
state_of_lists content = state_by content (None ∷ None ∷ []) None

-- the Drain with name 12, which waits in queue 2
abbrev pub drain_12 : Entry
drain_12 = (held_entry 4 12 None drain 2 false).1

-- a Move of this queue that runs, with this name
abbrev pub move_in : ℕ → ℕ → Entry
move_in queue name = (held_entry 2 name None (move 8) queue true).1

-- with one entry in the list of this number
abbrev pub one_held : ℕ → HeldEntry → State
one_held list pair = state_of_lists (with_list list (pair ∷ []) no_lists)

-- with a note of engine 0 alone
abbrev pub noting : BatchNote → State
noting note = state_by no_lists (Some note ∷ None ∷ []) None

-- the note of batch 10, of which two of three members were fetched
abbrev pub half_fetched : BatchNote
half_fetched = record { batch = 10; count = 3; fetched = 2; failed = false; closed = false }

-- the command is active with this mark, and entry 11 waits in queue 2
abbrev pub drained_by : Command → ℕ → State
drained_by command mark = state_by (with_list 2 (held_entry 4 11 None no_op 2 false ∷ []) no_lists) (None ∷ None ∷ [])
    (Some (record { command = command; mark = mark }))

-- queue 0 has a No-op, and queue 2 a Drain; engine 0 works on a Batch with one member, and engine 1 on a Move of
-- queue 2 that came before the Drain; Drain All waits for the Batch and the Move
abbrev pub busy : State
busy = state_by
    ((held_entry 4 12 None no_op 0 false ∷ []) ∷ [] ∷ (held_entry 9 14 None drain 2 false ∷ []) ∷
    (held_entry 1 10 None (batch 3) 0 true ∷ []) ∷ (held_entry 2 11 None (move 8) 2 true ∷ []) ∷
    (held_entry 5 13 (Some 10) no_op 0 true ∷ []) ∷ [] ∷ [])
    (Some half_fetched ∷ None ∷ [])
    (Some (record { command = DrainAll; mark = 12 }))

-- the same in other cells and by other names, which were given in another order where no name is compared
abbrev pub busy_elsewhere : State
busy_elsewhere = record {
  work = record {
    setup = set_up_at 90;
    content =
        (held_entry 7 44 None no_op 0 false ∷ []) ∷ [] ∷ (held_entry 1 52 None drain 2 false ∷ []) ∷
        (held_entry 2 41 None (batch 3) 0 true ∷ []) ∷ (held_entry 6 30 None (move 8) 2 true ∷ []) ∷
        (held_entry 3 42 (Some 41) no_op 0 true ∷ []) ∷ [] ∷ [];
    notes = Some (record half_fetched { batch = 41 }) ∷ None ∷ [];
    fates = [];
  };
  active = Some (record { command = DrainAll; mark = 44 });
}

-- labels by which it is the same
abbrev pub labels_elsewhere : Labels
labels_elsewhere = paired ((44, 112) ∷ (52, 114) ∷ (41, 110) ∷ (30, 111) ∷ (42, 113) ∷ [])

-- the work with these fates
abbrev pub after_fates : List FateRow → Work
after_fates rows = record (state_of_lists no_lists).work { fates = rows }

-- a state in which these have ended
abbrev pub ended_by : List FateRow → State
ended_by rows = record { work = after_fates rows; active = None }

-- a state in which the active command has a mark that is no name yet
abbrev pub later_marked : State
later_marked = drained_by DrainAll 21

-- ---- descriptions

-- label 112 is of a Move of eight bytes to queue 0, by ENQCMD with PASID 5; all others are of No-ops to queue 1, by
-- MOVDIR64B, which are members
abbrev pub described : Descriptions
described = λ label. cond (label == 112) (record { desc = move 8; queue = 0; kind = Enqcmd 5; member = false })
    (record { desc = no_op; queue = 1; kind = Movdir64b; member = true })

-- label 120 is of a No-op in a batch of queue 2, and all others are of entries of this queue
abbrev pub batch_in_queue : ℕ → Descriptions
batch_in_queue queue = λ label. cond (label == 120)
    (record { desc = no_op; queue = 2; kind = Enqcmd 5; member = true })
    (record { desc = batch 3; queue = queue; kind = Enqcmd 5; member = false })

-- all labels are of a Move to queue 2, which is a member or not
abbrev pub move_to_queue_2 : Bool → Descriptions
move_to_queue_2 member = λ label. record { desc = move 8; queue = 2; kind = Enqcmd 5; member = member }

-- queue 1 is dedicated, with this PASID
abbrev pub dedicated_as : ℕ → Setup
dedicated_as pasid = record (set_up_at 20) {
  configs = zero_queue ∷ record zero_queue { dedicated = true; pasid = pasid } ∷ zero_queue ∷ [];
}
