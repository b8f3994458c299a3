-- Step objects and steps that the worked rows speak of.
use Rattle.dsa_book.specs.declared.answer.Reply.TheVariants as reply
use Rattle.dsa_book.specs.declared.event.Event.TheVariants as event
use Rattle.std.specs.Prelude.{ℕ, List, [], ◌∷◌, ◌++◌, codes, replicate}
use Rattle.serde_json.specs.Data.{Data, null, string}
use Rattle.dsa_desc.specs.declared.Outcome.TheVariants.{Success}
use Rattle.dsa_book.specs.declared.answer.{Cause.TheVariants.{AtLimit}, DispatchAnswer.TheVariants.{Taken}}
use Rattle.dsa_book.specs.declared.answer.{FinishAnswer.TheVariants.{Done}, StartAnswer.TheVariants.{Started}}
use Rattle.dsa_book.specs.declared.answer.SubmitAnswer.TheVariants.{Retry}
use Rattle.dsa_book.specs.declared.event.{Kind.TheVariants.{Movdir64b}, Portal.TheVariants.{Limited}}
use Rattle.dsa_scenario.specs.declared.run.Record.{Record}
use Rattle.dsa_scenario.specs.Steps.{Visit, visits}
use Rattle.dsa_scenario.specs.Worked.{accepted, caps_of_a_run, fill, object_of, record_of_a_fetch, record_ticket}
use Rattle.dsa_scenario.specs.Worked.{stepped}

-- a step object with this value at `as`
abbrev pub object_as : Data → Data
object_as value = object_of ((codes "do", string (codes "enqcmd")) ∷ (codes "as", value) ∷ [])

-- and one with a text there
abbrev pub called : List ℕ → Data
called text = object_as (string text)

-- a submission that was turned away at a limit
abbrev pub retry_answered : Record
retry_answered = stepped (event.Submit 0 0 Limited Movdir64b fill) (reply.Submit (Retry AtLimit))

-- the entry of this name was taken, started, and ended
abbrev pub entry_taken : ℕ → Record
entry_taken name = stepped (event.Dispatch 0) (reply.Dispatch (Taken (record_ticket 1 name) 0))

abbrev pub entry_started : ℕ → Record
entry_started name = stepped (event.Start 0) (reply.Start (Started (record_ticket 1 name)))

abbrev pub entry_ended : ℕ → Record
entry_ended name = stepped (event.Finish 0 (record_ticket 1 name) Success) (reply.Finish (Done 1))

-- five step objects: the second and the third have the same own name, and the fourth has none
abbrev pub objects_of_five : List Data
objects_of_five =
    called (codes "list") ∷ called (codes "late") ∷ called (codes "late") ∷ null ∷ called (codes "first") ∷ []

-- their steps: the second was turned away
abbrev pub steps_of_five : List Visit
steps_of_five = visits caps_of_a_run 9 []
    (accepted (record_ticket 1 0) ∷ retry_answered ∷ accepted (record_ticket 2 1) ∷ accepted (record_ticket 3 2)
    ∷ record_of_a_fetch (record_ticket 4 3) ∷ [])
