-- Worlds of the worked script on a device with three queues, two engines and one group.
use Rattle.std.specs.Prelude.{ℕ, Bool, true, List, [], ◌∷◌, replicate, get_or, slice_set, Option, None}
use Rattle.std.specs.declared.alloc.Global.{Global}
use Rattle.dsa_regs.specs.declared.Caps.{Caps}
use Rattle.dsa_store.specs.Content.{HeldEntry, Content}
use Rattle.dsa_book.specs.{declared.note.BatchNote.{BatchNote}, State.{State, opening}}
use Rattle.dsa_keys.specs.{Key.{Key, key}}
use Rattle.dsa_parties.specs.{Standing.{Standing}, Good.{is_good}}
use Rattle.dsa_parties.specs.Worked.{all_at, operation_of_size, place_at, worked_script}

-- three queues, two engines and one group
abbrev pub three_queues_one_group : Caps
three_queues_one_group = record {
  queues = 3;
  groups = 1;
  engines = 2;
  total_size = 12;
  read_buffers = 16;
  slots = 4;
  max_batch_shift = 5;
  max_xfer_shift = 20;
}

-- so many names were given; these entries are held, and engine 0 has this note
abbrev pub state_of_three_queues : ℕ → Content → Option BatchNote → State
state_of_three_queues names content note =
    let first = opening three_queues_one_group in
    record first {
      work = record first.work {
        setup = record first.work.setup { next_name = names };
        content = content;
        notes = note ∷ None ∷ [];
      };
    }

-- the batch with name 0, which runs or waits in queue 1
abbrev pub batch_that_runs : Bool → HeldEntry
batch_that_runs running = (
  record { 0 = 0 },
  record { name = 0; parent = None; desc = operation_of_size 1 2; queue = 1; running = running },
)

-- the batch alone, in the list of this number
abbrev pub batch_in_list : ℕ → Bool → Content
batch_in_list list running = slice_set (replicate 7 []) list (batch_that_runs running ∷ [])

-- the parties where they begin
abbrev pub all_at_first : Standing
all_at_first = all_at (place_at 0 0) (place_at 4 0) 0 3

-- the key of a state where engine 0 has this note, which has a label
abbrev pub key_of_note : Option BatchNote → Key
key_of_note note = key (λ name. name) (state_of_three_queues 1 (batch_in_list 3 true) note)

-- the world is good, where the first client stands there and the first names have these labels
abbrev pub is_good_there : Global → ℕ → List ℕ → State → Bool
is_good_there memory next labels s = is_good (worked_script memory) (record {
  places = all_at (place_at next 0) (place_at 4 0) 0 3;
  labels = λ name. get_or labels name 0;
  state = s;
})
