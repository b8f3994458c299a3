-- What stands before the parts of a line, in each form (profile).
use Rattle.std.specs.Prelude.{ℕ, ◌==◌, ◌-◌, if◌then◌else◌, List, [], codes, decimal, length}
use Rattle.std.specs.Prelude.{replicate}
use Rattle.dsa_trace.specs.declared.form.{Trace.{Trace, TheVariants.{Json, Changes}}, Part.{Part}}
use Rattle.dsa_trace.specs.declared.form.Items.TheVariants.{Queues, Engines, Groups}
use Rattle.dsa_trace.specs.declared.form.Part.TheVariants.{Step, Event, Answer, Items, NoCommand, NoMoreCommand}
use Rattle.dsa_trace.specs.declared.form.Part.TheVariants.{Active, Awaited, LineEnd, Queue, Occupancy}
use Rattle.dsa_trace.specs.declared.form.Part.TheVariants.{Threshold, Size, Engine, InProgress, Slots, Members, Group}
use Rattle.dsa_trace.specs.declared.form.Part.TheVariants.{Used, Allowed, Held, InList, HeldEnd}
use Rattle.dsa_trace.specs.declared.form.Part.TheVariants.{DevicePhase, QueuePhase, TextEnd, Reserved}
use Rattle.dsa_trace.specs.declared.form.Part.TheVariants.{AnswerEnd, StateStart, ObjectEnd}
use Rattle.dsa_trace.specs.declared.form.Part.TheVariants.{Waiting, Names, MemberNames, NamesEnd}
use Rattle.dsa_trace.specs.declared.form.Part.TheVariants.{NoBatch, Batch, NoError, Error, Result, Fates, FatesEnd}

-- before a part of a row, and before the same part of a JSON object
abbrev pub marks : Part → List ℕ × List ℕ
marks Step = ([], codes "{\"step\":")
marks Event = (codes " | ", codes ",\"event\":\"")
marks Answer = (codes " -> ", codes "\",\"answer\":\"")
marks AnswerEnd = ([], codes "\",")
marks Result = ([], codes "\"result\":{\"kind\":\"")
marks Fates = ([], codes "},\"fates\":[")
marks FatesEnd = ([], codes "],")
marks StateStart = ([], codes "{")
marks ObjectEnd = ([], codes "}")
marks DevicePhase = ([], codes "\"phase\":\"")
marks NoError = ([], codes "\",\"error\":null")
marks Error = ([], codes "\",\"error\":{")
marks (Items Queues) = (codes " |", codes ",\"queues\":[")
marks (Items Engines) = (codes " |", codes "],\"engines\":[")
marks (Items Groups) = (codes " |", codes "],\"groups\":[")
marks NoCommand = ([], codes "],\"active\":null")
marks NoMoreCommand = (codes " | no command", [])
marks Active = (codes " | ", codes "],\"active\":{\"command\":\"")
marks Awaited = (codes " awaits ", codes "\",\"awaited\":")
marks LineEnd = (codes "\n", codes "}\n")
marks Queue = (codes " q", codes "{\"queue\":")
marks Occupancy = (codes " ", codes ",\"occupancy\":")
marks Threshold = (codes "/", codes ",\"threshold\":")
marks Size = (codes "/", codes ",\"size\":")
marks QueuePhase = ([], codes ",\"phase\":\"")
marks TextEnd = ([], codes "\"")
marks Waiting = ([], codes ",\"waiting\":[")
marks Engine = (codes " e", codes "{\"engine\":")
marks InProgress = (codes " ", codes ",\"in_progress\":")
marks Slots = (codes "/", codes ",\"slots\":")
marks Members = (codes " m", codes ",\"members\":")
marks Names = ([], codes ",\"names\":[")
marks MemberNames = ([], codes ",\"member_names\":[")
marks NamesEnd = ([], codes "]")
marks NoBatch = ([], codes ",\"batch\":null")
marks Batch = ([], codes ",\"batch\":{")
marks Group = (codes " g", codes "{\"group\":")
marks Used = (codes " ", codes ",\"used\":")
marks Allowed = (codes "/", codes ",\"allowed\":")
marks Reserved = ([], codes ",\"reserved\":")
marks Held = (codes "held ", codes "{\"held\":")
marks InList = (codes " in ", codes ",\"list\":\"")
marks HeldEnd = (codes "\n", codes "\"}\n")

abbrev pub mark : Trace → Part → List ℕ
mark Json part = (marks part).1
mark _ part = (marks part).0

-- between the items of a JSON array
abbrev pub comma : Trace → ℕ → List ℕ
comma Json place = if place == 0 then [] else codes ","
comma _ place = []

-- as many spaces before a number of a row as it has digits fewer than the greatest one; a row of changes has no columns
abbrev pub pad : Trace → ℕ → ℕ → List ℕ
pad Json n most = []
pad Changes n most = []
pad _ n most = replicate (length (decimal most) - length (decimal n)) 32
