-- What a script watches for, when a step shows it, and what the parties remember after a step.
use Rattle.dsa_book.specs.declared.answer.ClearAnswer.TheVariants as clear
use Rattle.dsa_book.specs.declared.answer.IssueAnswer.TheVariants as issue
use Rattle.dsa_book.specs.declared.answer.PollAnswer.TheVariants as poll
use Rattle.dsa_book.specs.declared.answer.Reply.TheVariants as reply
use Rattle.dsa_book.specs.declared.answer.SubmitAnswer.TheVariants as submit
use Rattle.dsa_book.specs.declared.answer.WriteAnswer.TheVariants as write
use Rattle.dsa_book.specs.declared.fate.Fate.TheVariants as fate
use Rattle.std.specs.Prelude.{ℕ, ◌==◌, ◌&&◌, ◌||◌, Bool, true, false, not, nat_lt, nat_le, List, ◌∷◌}
use Rattle.std.specs.List.{list_any}
use Rattle.dsa_base.specs.Rows.{passes}
use Rattle.dsa_desc.specs.Descriptor.{is_successful}
use Rattle.dsa_book.specs.declared.answer.{Reply.{Reply}, SubmitAnswer.{SubmitAnswer}}
use Rattle.dsa_book.specs.declared.fate.{Fate.{Fate}, FateRow.{FateRow}}
use Rattle.dsa_parties.specs.declared.places.{ClientTurn.{ClientTurn}, Move.{Move, TheVariants.{Client, Administrator}}}
use Rattle.dsa_parties.specs.declared.script.{Part.{Part}, Script.{Script}}
use Rattle.dsa_parties.specs.declared.watches.Became.{Became, TheVariants.{Accepted, Retry, Dropped, Completed}}
use Rattle.dsa_parties.specs.declared.watches.Became.TheVariants.{Successful, Failed, Aborted, Abandoned}
use Rattle.dsa_parties.specs.declared.watches.Replied.{Replied, TheVariants.{Ended, Active, Refused, Finished}}
use Rattle.dsa_parties.specs.declared.watches.Replied.TheVariants.{Nothing, Written, Cleared}
use Rattle.dsa_parties.specs.declared.watches.Watch.{Watch, TheVariants.{Entry, Act, Before}}
use Rattle.dsa_parties.specs.Standing.{Standing, turn_of, next_act, standing_after}

-- ---- answers and ends

-- a submission is answered so
abbrev pub is_submitted_so : Became → SubmitAnswer → Bool
is_submitted_so Accepted (submit.Accepted ticket) = true
is_submitted_so Retry (submit.Retry cause) = true
is_submitted_so Dropped (submit.Dropped cause) = true
is_submitted_so became answer = false

-- an entry ends so; 01 is the status of success
abbrev pub is_ended_so : Became → Fate → Bool
is_ended_so Completed (fate.Completed status) = true
is_ended_so Successful (fate.Completed status) = is_successful status
is_ended_so Failed (fate.Completed status) = not (is_successful status)
is_ended_so Aborted (fate.Aborted command) = true
is_ended_so Abandoned fate.Abandoned = true
is_ended_so became ending = false

-- a step of an administrator is answered so
abbrev pub is_replied_so : Replied → Reply → Bool
is_replied_so Ended (reply.Issue (issue.Ended aborted)) = true
is_replied_so Active (reply.Issue issue.Active) = true
is_replied_so Active (reply.Poll poll.Active) = true
is_replied_so Refused (reply.Issue (issue.Refused fault)) = true
is_replied_so Refused (reply.Write (write.Refused fault)) = true
is_replied_so Finished (reply.Poll poll.Finished) = true
is_replied_so Nothing (reply.Poll poll.Nothing) = true
is_replied_so Nothing (reply.Clear clear.Nothing) = true
is_replied_so Written (reply.Write write.Written) = true
is_replied_so Cleared (reply.Clear (clear.Cleared error)) = true
is_replied_so replied answer = false

-- the reply is such an answer to a submission
abbrev pub is_answered_so : Became → Reply → Bool
is_answered_so became (reply.Submit answer) = is_submitted_so became answer
is_answered_so became other = false

-- this row is of the entry with the label, which ended so
abbrev pub is_end_so : ℕ → Became → FateRow → Bool
is_end_so label became row = row.name == label && is_ended_so became row.fate

-- ---- who asks, and who has still to ask

-- the move submits the entry with this label
abbrev pub submits_label : Script → Standing → Move → ℕ → Bool
submits_label script stand (Client c) label =
    passes (λ (turn : ClientTurn). turn.place.next == label) (turn_of script stand c)
submits_label script stand move label = false

-- the move asks for the act of this number
abbrev pub asks_for_act : Script → Standing → Move → ℕ → Bool
asks_for_act script stand (Administrator a) act = passes (λ next. next == act) (next_act script stand a)
asks_for_act script stand move act = false

-- the act is in this part, and not before what its administrator does next
abbrev pub is_ahead : ℕ → Part → ℕ → Bool
is_ahead act part next = nat_le part.first act && nat_lt act part.end && nat_le next act

-- an administrator has still to do the act: these are their parts, and what each does next. A command that is issued
-- again because another was active, and a poll that goes on, are still to be done
abbrev pub is_to_do : ℕ → List Part → List ℕ → Bool
is_to_do act (part ∷ parts) (next ∷ nexts) = is_ahead act part next || is_to_do act parts nexts
is_to_do act parts nexts = false

-- ---- watches

-- a step with this reply and these rows of what ended shows what is watched for
abbrev pub is_watch_seen : Script → Standing → Move → Reply → List FateRow → Watch → Bool
is_watch_seen script stand move reply ends (Entry label became) =
    (submits_label script stand move label && is_answered_so became reply) || list_any (is_end_so label became) ends
is_watch_seen script stand move reply ends (Act act replied) =
    asks_for_act script stand move act && is_replied_so replied reply
is_watch_seen script stand move reply ends (Before label act) =
    submits_label script stand move label
    && is_answered_so Accepted reply
    && is_to_do act script.administrators.items stand.administrators

-- each of these has come before, or is seen now
abbrev pub came_with : (Watch → Bool) → List Watch → List Bool → List Bool
came_with seen (watch ∷ watches) (came ∷ rest) = (came || seen watch) ∷ came_with seen watches rest
came_with seen watches came = came

-- which watches have come after a step
abbrev pub came_after : Script → Standing → Move → Reply → List FateRow → List Bool
came_after script stand move reply ends =
    came_with (is_watch_seen script stand move reply ends) script.watches.items stand.came

-- where all stand after a step, and what they remember
abbrev pub moved_by : Script → Standing → Move → Reply → List FateRow → Standing
moved_by script stand move reply ends = record (standing_after script stand move reply) {
  came = came_after script stand move reply ends;
}
