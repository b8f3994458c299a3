-- Step objects, states and records that the worked rows speak of.
use Rattle.dsa_book.specs.declared.answer.Reply.TheVariants as reply
use Rattle.dsa_book.specs.declared.event.Event.TheVariants as event
use Rattle.std.specs.Prelude.{ℕ, true, List, [], ◌∷◌, ◌++◌, codes, replicate, Some, None}
use Rattle.serde_json.specs.Data.{Data, null}
use Rattle.dsa_regs.specs.declared.Command.TheVariants.{DrainAll}
use Rattle.dsa_store.specs.Content.{HeldEntry}
use Rattle.dsa_book.specs.declared.answer.{IssueAnswer.{IssueAnswer}, PollAnswer.{PollAnswer}}
use Rattle.dsa_book.specs.State.{State}
use Rattle.dsa_scenario.specs.declared.run.Record.{Record}
use Rattle.dsa_scenario.specs.Worked.{fill, running_with_fates, stepped}
use Rattle.dsa_chosen.specs.Worked.{fates_of_three}
use Rattle.dsa_named.specs.{Names.{Own}, Worked.{called}}

-- the objects of a run of one submission, to which that gives an own name
abbrev pub objects_of_a_run : List Data
objects_of_a_run = replicate 5 null ++ called (codes "x17") ∷ replicate 3 null

-- three entries have own names
abbrev pub three_names : List Own
three_names = (4, codes "a") ∷ (5, codes "b") ∷ (7, codes "c") ∷ []

-- an entry of this name, in the cell of this number
abbrev pub entry_of_name : ℕ → ℕ → HeldEntry
entry_of_name cell name =
    (record { 0 = cell }, record { name = name; parent = None; desc = fill; queue = 0; running = true })

-- nothing is held, and three entries have ended
abbrev pub state_of_three : State
state_of_three = (running_with_fates fates_of_three).state

-- a drain waits for entry 5, which waits in the queue, and for entry 4, which an engine has taken; entry 7 came later
abbrev pub state_of_a_drain : State
state_of_a_drain = record state_of_three {
  work = record state_of_three.work {
    content = (entry_of_name 3 5 ∷ entry_of_name 2 7 ∷ []) ∷ (entry_of_name 1 4 ∷ []) ∷ [] ∷ [];
    fates = [];
  };
  active = Some (record { command = DrainAll; mark = 6 });
}

abbrev pub command_answered : IssueAnswer → Record
command_answered answer = stepped (event.Issue DrainAll) (reply.Issue answer)

abbrev pub poll_answered : PollAnswer → Record
poll_answered answer = stepped event.Poll (reply.Poll answer)
