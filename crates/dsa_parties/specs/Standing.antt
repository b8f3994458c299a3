-- Where parties stand, whose turn is what, and where they stand after an answer.
use Rattle.std.specs.Prelude.{ℕ, ◌+◌, Bool, true, false, not, cond, nat_lt, List, map, Option, slice_get}
use Rattle.std.specs.{Prelude.{slice_set, option_map, option_and_then}, Option.{option_map_or}}
use Rattle.dsa_base.specs.Rows.{when}
use Rattle.dsa_book.specs.declared.answer.SubmitAnswer.{TheVariants.{Accepted, Retry, Dropped}}
use Rattle.dsa_book.specs.declared.answer.IssueAnswer.{IssueAnswer, TheVariants.{Refused}}
use Rattle.dsa_book.specs.declared.answer.PollAnswer.{PollAnswer, TheVariants.{Finished, Nothing}}
use Rattle.dsa_book.specs.declared.answer.Reply.{Reply, TheVariants.{Submit, Issue, Poll}}
use Rattle.dsa_regs.specs.declared.Fault.{TheVariants.{Busy}}
use Rattle.dsa_parties.specs.declared.places.{ClientPlace.{ClientPlace}, ClientTurn.{ClientTurn}, Places.{Places}}
use Rattle.dsa_parties.specs.declared.places.Move.{Move, TheVariants.{Client, Administrator}}
use Rattle.dsa_parties.specs.declared.script.{ClientScript.{ClientScript}, Part.{Part}, Script.{Script}, Submission.{Submission}}
use Rattle.dsa_parties.specs.declared.script.{Act.{Act, TheVariants.{Issue, Poll}}, ScriptEntry.{ScriptEntry}}
use Rattle.dsa_parties.specs.declared.script.RetryPolicy.{RetryPolicy, TheVariants.{GiveUp, Again, AtMost}}
use Rattle.dsa_parties.specs.declared.script.Until.{Until, TheVariants.{Once, Finished, Over}}
use Rattle.dsa_parties.specs.declared.watches.Watch.{Watch}
use Rattle.dsa_parties.specs.Scripts.{origin_submission}

-- where the parties stand, and of each watch of the script whether it has come
pub record Standing : Type 0 where
  pub clients : List ClientPlace
  pub administrators : List ℕ
  pub came : List Bool

-- what these places say
abbrev pub stand_of : Places → Standing
stand_of places = record {
  clients = places.clients.items;
  administrators = places.administrators.items;
  came = places.came.items;
}

-- a client at the begin of its part
abbrev pub place_first : ClientScript → ClientPlace
place_first client = record { next = client.part.first; refusals = 0 }

-- each party at the begin of its part, and nothing has come
abbrev pub standing_first : Script → Standing
standing_first script = record {
  clients = map place_first script.clients.items;
  administrators = map (λ (part : Part). part.first) script.administrators.items;
  came = map (λ (watch : Watch). false) script.watches.items;
}

-- ---- turns

-- what is next in a part, if the party is not through
abbrev pub next_in : Part → ℕ → Option ℕ
next_in part next = when (nat_lt next part.end) next

-- the entry as a turn, if a client submits it
abbrev pub turn_with : ℕ → ClientPlace → ScriptEntry → Option ClientTurn
turn_with number place entry = option_map
    (λ (s : Submission). record { client = number; place = place; desc = entry.desc; submission = s })
    (origin_submission entry.origin)

-- the turn of a client that stands there
abbrev pub turn_from : Script → ClientScript → ClientPlace → Option ClientTurn
turn_from script client place = option_and_then (turn_with client.number place)
    (option_and_then (slice_get script.entries.items) (next_in client.part place.next))

-- what client c of the script submits next, if it is not through
abbrev pub turn_of : Script → Standing → ℕ → Option ClientTurn
turn_of script stand c =
    option_and_then (λ client. option_and_then (turn_from script client) (slice_get stand.clients c))
    (slice_get script.clients.items c)

-- the number of what administrator a of the script does next, if it is not through
abbrev pub next_act : Script → Standing → ℕ → Option ℕ
next_act script stand a =
    option_and_then (λ part. option_and_then (next_in part) (slice_get stand.administrators a))
    (slice_get script.administrators.items a)

-- what administrator a of the script does next, if it is not through
abbrev pub act_of : Script → Standing → ℕ → Option Act
act_of script stand a = option_and_then (slice_get script.acts.items) (next_act script stand a)

-- ---- after an answer

-- behind the submission and its members
abbrev pub place_behind : ClientTurn → ClientPlace
place_behind turn = record { next = turn.place.next + 1 + turn.submission.members; refusals = 0 }

-- a client that is told to retry goes on or submits again, by its policy
abbrev pub place_by : RetryPolicy → ClientTurn → ClientPlace
place_by GiveUp turn = place_behind turn
place_by Again turn = turn.place
place_by (AtMost most) turn = cond (nat_lt turn.place.refusals most)
    (record turn.place { refusals = turn.place.refusals + 1 }) (place_behind turn)

-- where a client stands after an answer
abbrev pub place_after : Reply → ClientTurn → ClientPlace
place_after (Submit (Accepted ticket)) turn = place_behind turn
place_after (Submit (Dropped cause)) turn = place_behind turn
place_after (Submit (Retry cause)) turn = place_by turn.submission.retry turn
place_after reply turn = turn.place

-- a poll until then ends with this answer
abbrev pub ends_polling : Until → PollAnswer → Bool
ends_polling Once answer = true
ends_polling Finished Finished = true
ends_polling Over Finished = true
ends_polling Over Nothing = true
ends_polling until answer = false

-- the command was not issued because another is active
abbrev pub is_busy : IssueAnswer → Bool
is_busy (Refused Busy) = true
is_busy answer = false

-- the administrator goes on after this answer
abbrev pub is_through : Reply → Act → Bool
is_through (Issue answer) (Issue command again) = not (cond again (is_busy answer) false)
is_through (Poll answer) (Poll until) = ends_polling until answer
is_through reply act = true

-- the number of what an administrator does next, after an answer to the act of that number
abbrev pub act_after : Reply → ℕ → Act → ℕ
act_after reply next act = cond (is_through reply act) (next + 1) next

-- where all stand after a move with this reply: an engine's moves nobody
abbrev pub standing_after : Script → Standing → Move → Reply → Standing
standing_after script stand (Client c) reply = record stand {
  clients = option_map_or (λ turn. slice_set stand.clients c (place_after reply turn)) (turn_of script stand c)
      stand.clients;
}
standing_after script stand (Administrator a) reply = record stand {
  administrators = option_map_or
      (λ next. option_map_or (λ act. slice_set stand.administrators a (act_after reply next act))
      (slice_get script.acts.items next) stand.administrators)
      (next_act script stand a) stand.administrators;
}
standing_after script stand move reply = stand
