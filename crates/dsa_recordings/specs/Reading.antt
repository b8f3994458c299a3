-- What the document of a run is read as, and what that needs.
use Rattle.dsa_book.specs.declared.answer.SubmitAnswer.TheVariants as submit
use Rattle.dsa_book.specs.declared.answer.DispatchAnswer.TheVariants as dispatch
use Rattle.dsa_book.specs.declared.answer.FetchAnswer.TheVariants as fetch
use Rattle.dsa_book.specs.declared.answer.StartAnswer.TheVariants as start
use Rattle.dsa_book.specs.declared.answer.FinishAnswer.TheVariants as finish
use Rattle.dsa_book.specs.declared.answer.IssueAnswer.TheVariants as issue
use Rattle.dsa_book.specs.declared.answer.ClearAnswer.TheVariants as clear
use Rattle.dsa_book.specs.declared.answer.Reply.TheVariants as reply
use Rattle.dsa_book.specs.declared.event.Event.TheVariants as event
use Rattle.std.specs.Prelude.{◌≡◌, ◌<◌, ◌^◌, ℕ, ⊤, List, [], ◌∷◌, Some}
use Rattle.serde_json.specs.Data.{Data, object, Members, no_members, put}
use Rattle.dsa_desc.specs.{declared.Descriptor.{Descriptor}, Descriptor.{as_written}}
use Rattle.dsa_regs.specs.{declared.Caps.{Caps}, declared.Command.{Command}, Command.{word_of}}
use Rattle.dsa_regs.specs.declared.Command.TheVariants.{DisableWq, DrainWq, AbortWq, ResetWq}
use Rattle.dsa_book.specs.declared.{answer.Reply.{Reply}, event.Event.{Event}, event.Step.{Step}}
use Rattle.dsa_book.specs.declared.event.Kind.{Kind, TheVariants.{Enqcmd, Movdir64b}}
use Rattle.dsa_scenario.specs.declared.actions.Action.{Action, TheVariants.{Ask, Finish}}
use Rattle.dsa_recordings.specs.{Recordings.{members_of_step}, Texts.{Member}}

-- the action that asks for an event: a finish calls the entry by the name of its ticket, and of a descriptor's
-- fields the bits count that have a place in its bytes
abbrev pub action_of_event : Event → Action
action_of_event (event.Submit client queue portal submission desc) =
    Ask (event.Submit client queue portal submission (as_written desc))
action_of_event (event.Fetch engine desc) = Ask (event.Fetch engine (as_written desc))
action_of_event (event.Finish engine ticket outcome) = Finish engine ticket.name outcome
action_of_event e = Ask e

abbrev pub action_of_step : Step → Action
action_of_step step = action_of_event step.event

-- ---- objects

-- the members, and these besides; of a key that comes twice the last counts
abbrev pub put_members : List Member → Members → Members
put_members [] found = found
put_members (m ∷ ms) found = put_members ms (put m.0 m.1 found)

-- the object with these members
abbrev pub object_of_members : List Member → Data
object_of_members ms = object (put_members ms no_members)

-- the object that a step's line is
abbrev pub step_object : Step → Data
step_object step = object_of_members (members_of_step step)

-- ---- numbers have as many bits as those of a program

abbrev pub FitsDescriptor : Descriptor → Type 0
FitsDescriptor desc = (desc.op < 2 ^ 8) × (desc.size < 2 ^ 32)

abbrev pub FitsKind : Kind → Type 0
FitsKind (Enqcmd pasid) = pasid < 2 ^ 32
FitsKind Movdir64b = ⊤

abbrev pub FitsCommand : Command → Type 0
FitsCommand (DisableWq queues) = queues.mask < 2 ^ 16
FitsCommand (DrainWq queues) = queues.mask < 2 ^ 16
FitsCommand (AbortWq queues) = queues.mask < 2 ^ 16
FitsCommand (ResetWq queues) = queues.mask < 2 ^ 16
FitsCommand _ = ⊤

abbrev pub FitsEvent : Event → Type 0
FitsEvent (event.Submit client queue portal submission desc) =
    (client < 2 ^ 16) × (queue < 2 ^ 16) × FitsKind submission × FitsDescriptor desc
FitsEvent (event.Dispatch engine) = engine < 2 ^ 16
FitsEvent (event.Fetch engine desc) = (engine < 2 ^ 16) × FitsDescriptor desc
FitsEvent (event.Start engine) = engine < 2 ^ 16
FitsEvent (event.Finish engine ticket outcome) = (engine < 2 ^ 16) × (ticket.name < 2 ^ 32)
FitsEvent (event.Issue command) = FitsCommand command
FitsEvent event.Poll = ⊤
FitsEvent (event.WriteQueue queue config) =
    (queue < 2 ^ 16) × (config.size < 2 ^ 16) × (config.threshold < 2 ^ 16) × (config.priority < 2 ^ 8)
    × (config.pasid < 2 ^ 32) × (config.max_batch_shift < 2 ^ 8) × (config.max_xfer_shift < 2 ^ 8)
FitsEvent (event.WriteGroup group config) =
    (group < 2 ^ 16) × (config.queues < 2 ^ 64) × (config.engines < 2 ^ 64) × (config.reserved < 2 ^ 16)
    × (config.allowed < 2 ^ 16)
FitsEvent event.ClearError = ⊤

abbrev pub FitsReply : Reply → Type 0
FitsReply (reply.Submit (submit.Accepted ticket)) = ticket.name < 2 ^ 32
FitsReply (reply.Dispatch (dispatch.Taken ticket queue)) = (ticket.name < 2 ^ 32) × (queue < 2 ^ 16)
FitsReply (reply.Fetch (fetch.Fetched ticket)) = ticket.name < 2 ^ 32
FitsReply (reply.Start (start.Started ticket)) = ticket.name < 2 ^ 32
FitsReply (reply.Start (start.Abandoned count)) = count < 2 ^ 32
FitsReply (reply.Finish (finish.Done status)) = status < 2 ^ 8
FitsReply (reply.Issue (issue.Ended aborted)) = aborted < 2 ^ 32
FitsReply (reply.Clear (clear.Cleared noted)) = noted.queue < 2 ^ 16
FitsReply _ = ⊤

abbrev pub FitsCaps : Caps → Type 0
FitsCaps caps =
    (caps.queues < 2 ^ 16) × (caps.groups < 2 ^ 16) × (caps.engines < 2 ^ 16) × (caps.total_size < 2 ^ 16)
    × (caps.read_buffers < 2 ^ 16) × (caps.slots < 2 ^ 16) × (caps.max_batch_shift < 2 ^ 8)
    × (caps.max_xfer_shift < 2 ^ 8)

-- ---- steps that a document can ask for

-- a command has to have a word: its operand has at most 20 bits
abbrev pub HasWord : Event → Type 0
HasWord (event.Issue command) = (word : ℕ) × (word_of command ≡ Some word)
HasWord _ = ⊤

pub record IsAskable (step : Step) : Type 0 where
  pub event_fits : FitsEvent step.event
  pub reply_fits : FitsReply step.reply
  pub word : HasWord step.event

abbrev pub AreAskable : List Step → Type 0
AreAskable [] = ⊤
AreAskable (step ∷ steps) = IsAskable step × AreAskable steps

-- all commands have words
abbrev pub HaveWords : List Step → Type 0
HaveWords [] = ⊤
HaveWords (step ∷ steps) = HasWord step.event × HaveWords steps
