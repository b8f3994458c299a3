-- Requests and records that the worked rows speak of.
use Rattle.dsa_book.specs.declared.answer.Reply.TheVariants as reply
use Rattle.dsa_book.specs.declared.event.Event.TheVariants as event
use Rattle.std.specs.Prelude.{ℕ, List, [], ◌∷◌, ◌++◌, codes, Some, None}
use Rattle.serde_json.specs.Data.{Data, string}
use Rattle.dsa_book.specs.declared.answer.PollAnswer.TheVariants.{Nothing}
use Rattle.dsa_book.specs.declared.fate.Fate.TheVariants.{Abandoned, Completed}
use Rattle.dsa_scenario.specs.Worked.{no_command}
use Rattle.dsa_scenario.specs.declared.actions.Action.TheVariants.{Ask, Refuse}
use Rattle.dsa_scenario.specs.declared.run.Record.{Record, TheVariants.{Refused}}
use Rattle.dsa_device.specs.Running.{Running}
use Rattle.dsa_scenario.specs.Worked.{object_of, step_of_kind, stepped, smallest_caps_text, document_text}
use Rattle.dsa_scenario.specs.Worked.{fate, running_with_fates}
use Rattle.dsa_conform.specs.Seen.{Seen}
use Rattle.dsa_serve.specs.Requests.{Request, Step, Explain, Fault}

-- `explain` around a value
abbrev pub explain_around : Data → Data
explain_around d = object_of (step_of_kind (codes "explain") ((codes "step", d) ∷ []))

-- an object with this own name
abbrev pub own_step : List ℕ → Data
own_step name = object_of ((codes "as", string name) ∷ [])

-- nothing was seen, and a text was
abbrev pub unseen : Seen
unseen = record { answer = None; zf = None }

abbrev pub seen : List ℕ → Seen
seen text = record { answer = Some text; zf = None }

-- what is wrong with an open brace alone, what such a line asks, and what one asks whose byte is no UTF-8
abbrev pub flaw_of_a_brace : List ℕ
flaw_of_a_brace = codes "column 2: the end is here, a key in double quotes or } is wanted"

abbrev pub not_json : Request
not_json = Fault (codes "not JSON: " ++ flaw_of_a_brace)

abbrev pub not_utf8 : Request
not_utf8 = Fault (codes "not JSON: column 1: the bytes are no UTF-8")

-- the answers to a document without steps and to an open brace
abbrev pub answers_to_a_brace : List ℕ
answers_to_a_brace =
    codes "ready 0\nfault not JSON: column 2: the end is here, a key in double quotes or } is wanted\n"

-- five lines, two of them with a fault
abbrev pub requests_of_a_dialogue : List Request
requests_of_a_dialogue =
    Step (Refuse no_command) unseen ∷ not_json ∷ Step (Ask event.Poll) (seen (codes "nothing"))
    ∷ Explain (Ask event.Poll) unseen ∷ Fault (codes "no step: \"do\" is missing") ∷ []

-- a poll of a device without an active command
abbrev pub polled_record : Record
polled_record = stepped event.Poll (reply.Poll Nothing)

abbrev pub records_of_two_polls : List Record
records_of_two_polls = polled_record ∷ polled_record ∷ []

abbrev pub records_of_a_dialogue : List Record
records_of_a_dialogue = Refused no_command ∷ records_of_two_polls

abbrev pub lines_of_a_dialogue : List ℕ
lines_of_a_dialogue =
    codes "refused 13 BadCommand\n"
    ++ codes "fault not JSON: column 2: the end is here, a key in double quotes or } is wanted\n"
    ++ codes "nothing\n2 poll -> nothing: no command is active\nfault no step: \"do\" is missing\n"

-- a line that asks for a poll, and one that asks for its explanation
abbrev pub poll_line : List ℕ
poll_line = codes "{\"do\":\"poll\"}"

abbrev pub explained_poll_line : List ℕ
explained_poll_line = codes "{\"do\":\"explain\",\"step\":{\"do\":\"poll\"}}"

-- a line that says wrongly what was seen of a poll, and one in the friendly form
abbrev pub unread_poll_line : List ℕ
unread_poll_line = codes "{\"do\":\"poll\",\"answer\":0}"

abbrev pub friendly_line : List ℕ
friendly_line = codes "{\"do\":\"command\",\"command\":\"enable-device\"}"

-- a first line: a document with these steps, on the smallest device
abbrev pub first_line : List ℕ → List ℕ
first_line steps = document_text smallest_caps_text (codes "9") steps

-- a line that asks for the device, and one that asks for fates
abbrev pub show_line : List ℕ
show_line = codes "{\"do\":\"show\"}"

abbrev pub line_of_fates : List ℕ
line_of_fates = codes "{\"do\":\"fates\"}"

-- the smallest device, with an entry that was completed, and then with one more that was abandoned
abbrev pub with_a_fate : Running
with_a_fate = running_with_fates (fate 3 (Completed 1) ∷ [])

abbrev pub with_two_fates : Running
with_two_fates = running_with_fates (fate 3 (Completed 1) ∷ fate 0 Abandoned ∷ [])

-- the line of a new device that is the smallest
abbrev pub new_device_line : List ℕ
new_device_line =
    codes "{\"phase\":\"off\",\"error\":null,\"queues\":["
    ++ codes "{\"queue\":0,\"occupancy\":0,\"threshold\":0,\"size\":0,\"phase\":\"off\",\"waiting\":[]}],"
    ++ codes "\"engines\":[{\"engine\":0,\"in_progress\":0,\"slots\":1,\"members\":0,"
    ++ codes "\"names\":[],\"member_names\":[],\"batch\":null}],"
    ++ codes "\"groups\":[{\"group\":0,\"used\":0,\"allowed\":0,\"reserved\":0}],\"active\":null}\n"
