-- Parties that ask for one event alone, a script of one administrator who polls once, and steps that show what it is
-- answered.
use Rattle.std.proofs.Common.{arith, refl}
use Rattle.std.specs.Prelude.{ℕ, true, List, [], ◌∷◌, ◌++◌, Option, Some, None}
use Rattle.std.specs.declared.alloc.Global.{Global}
use Rattle.dsa_desc.specs.declared.Outcome.TheVariants.{Success}
use Rattle.dsa_store.specs.Content.{Content}
use Rattle.dsa_book.specs.declared.answer.{Reply.{Reply, TheVariants.{Poll}}, PollAnswer.TheVariants.{Nothing}}
use Rattle.dsa_book.specs.declared.event.{Event.{Event}, Step.{Step}}
use Rattle.dsa_book.specs.declared.event.Event.TheVariants as event
use Rattle.dsa_keys.specs.Parties.{Parties, World, Made, Stored}
use Rattle.dsa_parties.specs.declared.script.{Script.{Script}, Until.TheVariants.{Once}}
use Rattle.dsa_parties.specs.declared.script.Act.TheVariants as act
use Rattle.dsa_parties.specs.declared.places.Move.TheVariants.{Administrator}
use Rattle.dsa_parties.specs.{Offers.{label_ticket}, Standing.{Standing, standing_first}, Worked.{part_between, vector_in}}
use Rattle.dsa_explore.specs.declared.found.{Ask.TheVariants.{Act}, Finding.TheVariants.{Answer}, Found.{Found}}
use Rattle.dsa_explore.specs.{declared.stored.Try.{Try}, Rows.{labels_of}, WorkedSearch.{no_op_named, world_holding}}
use Rattle.dsa_explore.specs.WorkedSetup.{opened_steps, state_after_set_up}

-- parties that ask for this event, always
abbrev pub asking_for : Event → Parties ℕ ℕ
asking_for e = record {
  offer = λ place seen move. Some (record { event = e; label = 40 });
  moved = λ place move sight. place;
}

-- move 5, which is answered so
abbrev pub made_so : Reply → Made ℕ
made_so reply = record { move = 5; reply = reply }

-- entry 3, which has the label 30, runs on engine 1
abbrev pub running_content : Content
running_content = [] ∷ [] ∷ [] ∷ [] ∷ ((record { 0 = 3 }, record (no_op_named 3 None).1 { running = true }) ∷ []) ∷ []
    ∷ [] ∷ []

abbrev pub running_world : World ℕ
running_world = world_holding running_content None []

-- the end of the entry with this label
abbrev pub ending : ℕ → Event
ending label = event.Finish 1 (label_ticket label) Success

-- a poll that is answered `nothing`
abbrev pub polled : Step
polled = record { event = event.Poll; reply = Poll Nothing }

-- one administrator, who polls once
abbrev pub polling_script : Global → Script
polling_script memory = record {
  entries = vector_in memory [] (omega arith);
  clients = vector_in memory [] (omega arith);
  acts = vector_in memory (act.Poll Once ∷ []) (omega arith);
  administrators = vector_in memory (part_between 0 1 ∷ []) (omega arith);
  engines = vector_in memory [] (omega arith);
  watches = vector_in memory [] (omega arith);
  fits = refl;
}

-- the set-up, and the poll
abbrev pub polled_steps : List Step
polled_steps = opened_steps ++ polled ∷ []

-- where the administrator begins after the set-up
abbrev pub polling_world : Global → World Standing
polling_world memory = record {
  places = standing_first (polling_script memory);
  labels = labels_of [];
  state = state_after_set_up opened_steps;
}

-- this world alone is stored
abbrev pub polling_table : Global → List (Stored Standing)
polling_table memory = record { level = 0; world = polling_world memory } ∷ []

-- the poll, which is to take an entry from this queue, or from none
abbrev pub poll_from : Option ℕ → Try
poll_from queue = record { by = Administrator 0; queue = queue }

-- a row with its answer, after so many steps
abbrev pub polled_row : ℕ → Found
polled_row steps = record { finding = Answer (Act 0) (Poll Nothing); steps = steps }
