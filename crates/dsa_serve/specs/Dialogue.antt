-- A dialogue: what is answered to an input, and how far that is written.
use Rattle.std.specs.Prelude.{◌≡◌, ◌⊎◌, ◌≤◌, ◌<◌, ◌+◌, ℕ, ◌^◌, Bool, true, false, List, [], ◌∷◌}
use Rattle.std.specs.Prelude.{◌++◌, flat_map}
use Rattle.std.specs.Prelude.{drop, length, map, take, Option}
use Rattle.serde_json.specs.Data.{Data}
use Rattle.std.specs.Io.KnownBytes.{Consumes, IsAtEnd, Appends}
use Rattle.dsa_regs.specs.declared.Caps.{Caps}
use Rattle.dsa_book.specs.{declared.answer.Ticket.{Ticket}, State.{State}}
use Rattle.dsa_device.specs.Running.{Running, running_at_first}
use Rattle.dsa_scenario.specs.declared.{actions.Action.{Action}, run.Record.{Record}}
use Rattle.dsa_scenario.specs.declared.faults.ScenarioFault.{ScenarioFault}
use Rattle.dsa_scenario.specs.declared.faults.ScenarioFault.TheVariants.{Read, TooLong, Write}
use Rattle.dsa_scenario.specs.declared.faults.ScenarioFault.TheVariants.{OutOfMemory, BadStep}
use Rattle.dsa_scenario.specs.{Document.{HasHead, IsOpenable}, Lines.{line_of_text, row_text}}
use Rattle.dsa_scenario.specs.Steps.{Visit}
use Rattle.dsa_conform.specs.{Seen.{Seen}, Run.{AreRead, IsUnread, IsOtherFault}}
use Rattle.dsa_expand.specs.Expansion.{HasNoStrictForm, IsStrictForm}
use Rattle.dsa_serve.specs.declared.{dialogue.Dialogue.{Dialogue}, session.Session.{Session}}
use Rattle.dsa_serve.specs.Names.{Names, first_names, own_names_of, names_over}
use Rattle.dsa_serve.specs.Requests.{Request, Ready, step_request, AreAsked}
use Rattle.dsa_serve.specs.Answers.{after_requests, records_of_visits, IsCourse, IsSessionTo}
use Rattle.dsa_serve.specs.Input.{AreLines, with_rest, IsFront, HasFirst, IsUnended}

-- the bytes are a JSON value with these caps and this capacity, and its step objects ask this, one each in order, and
-- say that this was seen (profile)
pub record IsObservedDocument (bytes : List ℕ) (caps : Caps) (capacity : ℕ) (observed : List (Action × Seen))
    : Type 0 where
  pub steps : List Data
  pub head : HasHead bytes caps capacity steps
  pub read : AreRead steps observed

-- the faults of a strict document, where an object that says wrongly what was seen is no step object (profile)
abbrev pub IsFaultOfStrict : List ℕ → ScenarioFault → Type 0
IsFaultOfStrict bytes (BadStep i) = IsUnread bytes i
IsFaultOfStrict bytes fault = IsOtherFault bytes fault

-- ---- the document that a dialogue begins with

-- it is taken as this strict document: in a friendly dialogue as its strict form, and else as it is (profile)
abbrev pub IsTakenAs : (is_friendly : Bool) → List ℕ → List ℕ → Type 0
IsTakenAs false first strict = strict ≡ first
IsTakenAs true first strict = IsStrictForm first strict

-- the faults of a document: in a friendly dialogue those for which it has no strict form, and those of that form
-- (profile)
abbrev pub IsFaultOfFirst : (is_friendly : Bool) → List ℕ → ScenarioFault → Type 0
IsFaultOfFirst false first fault = IsFaultOfStrict first fault
IsFaultOfFirst true first fault =
    HasNoStrictForm first fault ⊎ ((strict : List ℕ) × IsStrictForm first strict × IsFaultOfStrict strict fault)

-- the steps of a document, and that it was taken, and then what lines ask (profile)
abbrev pub from_document : List (Action × Seen) → List Request → List Request
from_document observed requests = map step_request observed ++ Ready (length observed) ∷ requests

-- the own names that are known after the steps of a strict document, of which these records come first; a strict
-- dialogue knows of none (profile)
abbrev pub names_at_first : (is_friendly : Bool) → List Data → List Record → Names
names_at_first is_friendly steps records = names_over (first_names is_friendly) steps records

-- the first is a document without a fault, and the output answers its steps and these lines, all of which may be in
-- the friendly form or not: their steps are those of a new device, whose history begins anew where a line asks for
-- that, and which comes to this state (profile)
pub record IsDialogue (is_friendly : Bool) (first : List ℕ) (lines : List (List ℕ)) (last : State) (output : List ℕ)
    : Type 0 where
  pub caps : Caps
  pub capacity : ℕ
  pub observed : List (Action × Seen)
  pub requests : List Request
  pub steps : List Visit
  pub strict : List ℕ
  pub form : IsTakenAs is_friendly first strict
  pub document : IsObservedDocument strict caps capacity observed
  pub opening : IsOpenable caps capacity
  pub names : Names
  pub asked : AreAsked (names_at_first is_friendly document.steps (records_of_visits steps)) lines requests
      (drop (length observed) (records_of_visits steps)) names
  pub course : IsCourse caps capacity (from_document observed requests) steps output
  pub led_to : (after_requests (running_at_first caps capacity) (from_document observed requests) steps).state
      ≡ last

-- the output answers the document and all whole lines behind it, and no more; where the end of the input `ended` the
-- document, it alone (profile)
pub record AnswersWhole (is_friendly ended : Bool) (input output : List ℕ) : Type 0 where
  pub first : List ℕ
  pub behind : List ℕ
  pub lines : List (List ℕ)
  pub rest : List ℕ
  pub last : State
  pub split : HasFirst ended input first behind
  pub lines_are : AreLines behind lines rest
  pub dialogue : IsDialogue is_friendly first lines last output

-- the output answers this document and all lines behind it, and ends with the fates that their run leads to (profile)
pub record IsDialogueEnded (is_friendly : Bool) (first behind output : List ℕ) : Type 0 where
  pub lines : List (List ℕ)
  pub rest : List ℕ
  pub last : State
  pub answered : List ℕ
  pub lines_are : AreLines behind lines rest
  pub dialogue : IsDialogue is_friendly first (with_rest lines rest) last answered
  pub with_fates : output ≡ answered ++ flat_map (λ row. line_of_text (row_text row)) last.work.fates

-- the output answers all lines of the input, and ends with the fates (profile)
pub record AnswersAll (is_friendly : Bool) (input output : List ℕ) : Type 0 where
  pub without_feed : Bool
  pub first : List ℕ
  pub behind : List ℕ
  pub split : HasFirst without_feed input first behind
  pub ended : IsDialogueEnded is_friendly first behind output

-- the reader gave all of an input, and all answers to it were written (profile)
abbrev pub IsAllAnswered : (is_friendly : Bool) → Option (List ℕ) → Option (List ℕ) → Option (List ℕ)
    → Option (List ℕ) → Type 0
IsAllAnswered is_friendly had left held holds =
    (input : List ℕ) × (output : List ℕ) × Consumes had left input × IsAtEnd left
    × AnswersAll is_friendly input output × Appends held holds output

-- nothing is written before the line feed that ends the document, which comes after at most 2^20 bytes, and then what
-- answers the whole lines (profile)
abbrev pub AnswersSoFar : (is_friendly : Bool) → List ℕ → List ℕ → Type 0
AnswersSoFar is_friendly input output =
    (IsUnended input × (length input ≤ 2 ^ 20) × (output ≡ [])) ⊎ AnswersWhole is_friendly false input output

-- the reader has no more, and the input is a document that its end ended, which the output answers (profile)
abbrev pub AnswersOnlyLine : (is_friendly : Bool) → Option (List ℕ) → List ℕ → List ℕ → Type 0
AnswersOnlyLine is_friendly left input output = IsAtEnd left × AnswersWhole is_friendly true input output

-- ---- a dialogue in its course

-- so far a session that began with this document has read these bytes behind it and answered their whole
-- lines, and knows the own names that were given; of the rest of a line it keeps as much as shows whether it is too
-- long (profile)
pub record IsServing (is_friendly : Bool) (first behind output : List ℕ) (number : ℕ) (now : Running)
    (tickets : List Ticket) (told : ℕ) (names : Names) (kept : List ℕ) : Type 0 where
  pub lines : List (List ℕ)
  pub rest : List ℕ
  pub caps : Caps
  pub capacity : ℕ
  pub observed : List (Action × Seen)
  pub requests : List Request
  pub records : List Record
  pub lines_are : AreLines behind lines rest
  pub keeps : kept ≡ take (2 ^ 20 + 1) rest
  pub strict : List ℕ
  pub form : IsTakenAs is_friendly first strict
  pub document : IsObservedDocument strict caps capacity observed
  pub opening : IsOpenable caps capacity
  pub asked : AreAsked (names_at_first is_friendly document.steps records) lines requests
      (drop (length observed) records) names
  pub session : IsSessionTo caps capacity (from_document observed requests) records number now
      tickets told output

-- the same of a session of the program
abbrev pub Serves : {S : Type 0} → (is_friendly : Bool) → List ℕ → List ℕ → List ℕ → Session S → List ℕ → Type 0
Serves is_friendly first behind output session kept =
    IsServing is_friendly first behind output session.number session.device session.tickets.items session.told
    (own_names_of session) kept

-- since the reader had these bytes and the writer held those, a session has answered the whole lines of what the
-- reader gave, and the writer has taken the answers; the document ended with its line feed, or with the input
-- (profile)
pub record IsInCourse {S : Type 0} (is_friendly ended : Bool) (had left held holds : Option (List ℕ))
    (dialogue : Dialogue S) : Type 0 where
  pub input : List ℕ
  pub first : List ℕ
  pub behind : List ℕ
  pub output : List ℕ
  pub read : Consumes had left input
  pub written : Appends held holds output
  pub unended : IsUnended first
  pub short : length first ≤ 2 ^ 20
  pub front : IsFront ended input first behind
  pub serving : Serves is_friendly first behind output dialogue.session dialogue.kept.items

-- ---- where it stopped

-- a fault that comes behind the document
abbrev pub IsLate : ScenarioFault → Type 0
IsLate fault = (fault ≡ Read) ⊎ (fault ≡ Write) ⊎ (fault ≡ OutOfMemory)

-- what the reader gave, by the bytes that it had and has left, and what the writer took, by those that it held and
-- holds, where this fault ended a dialogue whose reads give no more bytes than this: no more is read of a document
-- that is too long, or that begins no dialogue, than the last of these gave (profile)
abbrev pub IsStoppedWithin : (is_friendly : Bool) → ℕ → ScenarioFault → Option (List ℕ) → Option (List ℕ)
    → Option (List ℕ) → Option (List ℕ) → Type 0
IsStoppedWithin is_friendly room Read had left held holds =
    (input : List ℕ) × (output : List ℕ) × Consumes had left input × AnswersSoFar is_friendly input output
    × Appends held holds output
IsStoppedWithin is_friendly room TooLong had left held holds =
    (first : List ℕ) × (more : List ℕ) × Consumes had left (first ++ more) × IsUnended first
    × (2 ^ 20 < length first)
    × (length first + length more ≤ 2 ^ 20 + room) × Appends held holds []
IsStoppedWithin is_friendly room Write had left held holds =
    (input : List ℕ) × (output : List ℕ) × (count : ℕ) × Consumes had left input
    × (AnswersWhole is_friendly false input output ⊎ AnswersOnlyLine is_friendly left input output
    ⊎ (IsAtEnd left × AnswersAll is_friendly input output))
    × (count < length output) × Appends held holds (take count output)
IsStoppedWithin is_friendly room OutOfMemory had left held holds =
    (input : List ℕ) × (more : List ℕ) × (output : List ℕ) × Consumes had left (input ++ more)
    × (length more ≤ room)
    × (AnswersSoFar is_friendly input output ⊎ AnswersOnlyLine is_friendly left (input ++ more) output)
    × Appends held holds output
IsStoppedWithin is_friendly room fault had left held holds =
    (input : List ℕ) × (first : List ℕ) × (behind : List ℕ) × (ended : Bool) × Consumes had left input
    × HasFirst ended input first behind × (ended ≡ true → IsAtEnd left) × (length behind ≤ room)
    × IsFaultOfFirst is_friendly first fault × Appends held holds []

-- a dialogue in its course, whose reader has this left and whose writer holds this, goes on, and has and holds that
-- (profile)
abbrev pub GoesOn : {S : Type 0} → Option (List ℕ) → Option (List ℕ) → Dialogue S → Option (List ℕ)
    → Option (List ℕ) → Dialogue S → Type 0
GoesOn left holds dialogue now_left now_holds new = (is_friendly : Bool) (had held : Option (List ℕ))
    → IsInCourse is_friendly false had left held holds dialogue
    → IsInCourse is_friendly false had now_left held now_holds new

-- or was stopped by this fault, where reads give no more bytes than this (profile)
abbrev pub IsStoppedOn : {S : Type 0} → ℕ → ScenarioFault → Option (List ℕ) → Option (List ℕ) → Dialogue S
    → Option (List ℕ) → Option (List ℕ) → Type 0
IsStoppedOn room fault left holds dialogue now_left now_holds =
    (is_friendly : Bool) (had held : Option (List ℕ))
    → IsInCourse is_friendly false had left held holds dialogue
    → IsStoppedWithin is_friendly room fault had now_left held now_holds

-- the same where a read gives at most 2^16 bytes (profile)
abbrev pub IsStopped : (is_friendly : Bool) → ScenarioFault → Option (List ℕ) → Option (List ℕ)
    → Option (List ℕ) → Option (List ℕ) → Type 0
IsStopped is_friendly fault had left held holds =
    IsStoppedWithin is_friendly (2 ^ 16) fault had left held holds
