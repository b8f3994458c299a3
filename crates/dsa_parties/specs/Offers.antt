-- What parties ask for: parties by a script, and the list of their moves.
use Rattle.std.specs.Prelude.{ℕ, Bool, true, false, not, cond, ◌&&◌, ◌==◌, nat_lt, List, length, map, ◌++◌, get_or}
use Rattle.std.specs.Prelude.{Option, None, slice_get, option_map, option_and_then}
use Rattle.std.specs.List.{list_any}
use Rattle.dsa_base.specs.Lists.{In}
use Rattle.dsa_base.specs.{Rows.{when, passes}, Numbers.{numbers_below}}
use Rattle.dsa_desc.specs.declared.Outcome.{Outcome, TheVariants.{Success, PageFault}}
use Rattle.dsa_book.specs.declared.{answer.{Ticket.{Ticket}}, note.BatchNote.{BatchNote}}
use Rattle.dsa_book.specs.declared.event.Event.{Event}
use Rattle.dsa_book.specs.declared.event.Event.TheVariants.{Submit, Dispatch, Fetch, Start, Finish, Issue, Poll}
use Rattle.dsa_book.specs.declared.event.Event.TheVariants.{WriteQueue, WriteGroup, ClearError}
use Rattle.dsa_book.specs.Work.{is_all_fetched}
use Rattle.dsa_keys.specs.{Key.{Key}, Parties.{Offer, Parties}}
use Rattle.dsa_parties.specs.declared.places.{ClientTurn.{ClientTurn}, NextMember.{NextMember}}
use Rattle.dsa_parties.specs.declared.places.Move.{Move}
use Rattle.dsa_parties.specs.declared.places.Move.TheVariants.{Client, Administrator, Dispatch, Fetch, Start, Finish}
use Rattle.dsa_parties.specs.declared.script.{Script.{Script}, ScriptEntry.{ScriptEntry}}
use Rattle.dsa_parties.specs.declared.script.Act.{Act}
use Rattle.dsa_parties.specs.declared.script.Act.TheVariants.{Issue, Poll, WriteQueue, WriteGroup, ClearError}
use Rattle.dsa_parties.specs.declared.script.Outcomes.{Outcomes, TheVariants.{SuccessAlone, PageFaultAlone, Both}}
use Rattle.dsa_parties.specs.Scripts.{member_count, member_label}
use Rattle.dsa_parties.specs.{Standing.{Standing, turn_of, act_of}, Watches.{moved_by}}

-- ---- events

-- the label that no entry has: that of offers that bring in nothing
abbrev pub spare_label : Script → ℕ
spare_label script = length script.entries.items

-- an offer that brings in nothing
abbrev pub bare_offer : Script → Event → Offer
bare_offer script event = record { event = event; label = spare_label script }

-- a submission
abbrev pub submission_event : ClientTurn → Event
submission_event turn =
    Submit turn.client turn.submission.queue turn.submission.portal turn.submission.kind turn.desc

-- an act of an administrator
abbrev pub act_event : Act → Event
act_event (Issue command again) = Issue command
act_event (Poll until) = Poll
act_event (WriteQueue queue config) = WriteQueue queue config
act_event (WriteGroup group config) = WriteGroup group config
act_event ClearError = ClearError

-- the member that is fetched next for the batch of this note, which has the batch's label
abbrev pub next_member : List ScriptEntry → BatchNote → Option NextMember
next_member entries note =
    let label = member_label note.batch note.fetched in
    cond (not (is_all_fetched note) && nat_lt note.fetched (member_count entries note.batch))
    (option_map (λ (entry : ScriptEntry). record { label = label; desc = entry.desc }) (slice_get entries label)) None

-- an engine may give this outcome
abbrev pub allows : Outcomes → Outcome → Bool
allows SuccessAlone Success = true
allows PageFaultAlone PageFault = true
allows Both outcome = true
allows outcomes outcome = false

-- an engine may give this outcome to the entry with this label
abbrev pub may_give : List ScriptEntry → ℕ → Outcome → Bool
may_give entries label outcome =
    passes (λ (entry : ScriptEntry). allows entry.outcomes outcome) (slice_get entries label)

-- a ticket with a label for the name
abbrev pub label_ticket : ℕ → Ticket
label_ticket label = record { cell = record { 0 = 0 }; name = label }

-- ---- parties

-- the engine makes steps
abbrev pub has_engine : Script → ℕ → Bool
has_engine script e = list_any (λ engine. engine == e) script.engines.items

-- what is asked for by a move
abbrev pub offer_of : Script → Standing → Key → Move → Option Offer
offer_of script stand key (Client c) = option_map
    (λ (turn : ClientTurn). record { event = submission_event turn; label = turn.place.next })
    (turn_of script stand c)
offer_of script stand key (Administrator a) =
    option_map (λ act. bare_offer script (act_event act)) (act_of script stand a)
offer_of script stand key (Dispatch e) = when (has_engine script e) (bare_offer script (Dispatch e))
offer_of script stand key (Fetch e) = cond (has_engine script e)
    (option_map (λ (next : NextMember). record { event = Fetch e next.desc; label = next.label })
    (option_and_then (next_member script.entries.items) (get_or key.notes e None))) None
offer_of script stand key (Start e) = when (has_engine script e) (bare_offer script (Start e))
offer_of script stand key (Finish e label outcome) =
    when (has_engine script e && may_give script.entries.items label outcome)
    (bare_offer script (Finish e (label_ticket label) outcome))

-- the parties of a script
abbrev pub parties_of : Script → Parties Standing Move
parties_of script = record {
  offer = offer_of script;
  moved = λ stand move sight. moved_by script stand move sight.reply sight.ends;
}

-- ---- moves

-- each move of an engine but those that end an entry
abbrev pub engine_moves_of : Script → List Move
engine_moves_of script =
    map Dispatch script.engines.items ++ (map Fetch script.engines.items ++ map Start script.engines.items)

-- each move but those that end an entry
abbrev pub moves_of : Script → List Move
moves_of script =
    map Client (numbers_below (length script.clients.items))
    ++ (map Administrator (numbers_below (length script.administrators.items)) ++ engine_moves_of script)

-- the move is one of these, or an engine of the script ends an entry
abbrev pub IsListed : Script → Move → Type 0
IsListed script (Finish e label outcome) = In e script.engines.items
IsListed script move = In move (moves_of script)
