-- What a line asks.
use Rattle.dsa_scenario.specs.declared.fields.Form.TheVariants as form
use Rattle.std.specs.Prelude.{◌≡◌, ◌⊎◌, ◌≤◌, ◌<◌, ℕ, ◌^◌, Bool, true, false, List, [], ◌∷◌, ◌++◌}
use Rattle.std.specs.Prelude.{length, codes}
use Rattle.std.specs.Prelude.{bytes_eq, if◌then◌else◌, Option, Some, None, filter_map, map, drop, take}
use Rattle.std.specs.Prelude.{option_and_then, option_map}
use Rattle.serde_json.specs.{Data.{Data}, Find.{get}, Read.{read}}
use Rattle.dsa_book.specs.declared.fate.PastFates.{PastFates, TheVariants.{Kept, Forgotten}}
use Rattle.dsa_scenario.specs.declared.{actions.Action.{Action}, run.Record.{Record}}
use Rattle.dsa_scenario.specs.{Fields.{◌>>=◌, Row, text_of}, Document.{IsJson, IsNoJson}}
use Rattle.dsa_check.specs.{OneStep.{AreStepTexts, AreKeyTexts, joined_text}, OneLine.{IsFlawText}}
use Rattle.dsa_conform.specs.Seen.{Seen, seen_as, observation_of}
use Rattle.dsa_expand.specs.{Steps.{Given}, Single.{Sense, Itself, Strictly, StuckAt, sense_of}}
use Rattle.dsa_serve.specs.Names.{Names, names_given_by}
use Rattle.dsa_serve.specs.declared.requests.Line.{Line}
use Rattle.dsa_serve.specs.declared.requests.Line.TheVariants as line

-- what is asked: to make a step, of which this was seen, or to make and explain one; to show the device; to tell the
-- fates that were not told yet; to begin the history anew, with the fates so far or without them; or nothing, and this
-- text tells why. A document asks last to say that it was taken, with so many steps (profile)
pub data Request : Type 0 where
  Step : Action → Seen → Request
  Explain : Action → Seen → Request
  Show : Request
  Fates : Request
  BeginAnew : PastFates → Request
  Fault : List ℕ → Request
  Ready : ℕ → Request

-- the same of a value of the program
abbrev pub request_as : Line → Request
request_as (line.Step action seen) = Step action (seen_as seen)
request_as (line.Explain action seen) = Explain action (seen_as seen)
request_as line.Show = Show
request_as line.Fates = Fates
request_as (line.BeginAnew past) = BeginAnew past

abbrev pub is_word : List ℕ → Option (List ℕ) → Bool
is_word word None = false
is_word word (Some text) = bytes_eq text word

-- the word at `do` is `explain` (profile)
abbrev pub is_explanation : Data → Bool
is_explanation d = is_word (codes "explain") (text_of (codes "do") d)

-- the object at `step` that is to be explained (profile)
abbrev pub object_within : Data → Option Data
object_within d = if is_explanation d then get (codes "step") d else None

-- what the step object asks that is to be explained, and what was seen of it (profile)
abbrev pub explained_of : Data → Option (Action × Seen)
explained_of d = do
  step ← object_within d
  observation_of step

-- a step, by what it asks and what was seen of it
abbrev pub step_request : Action × Seen → Request
step_request observed = Step observed.0 observed.1

-- what this word at `do` asks by itself (profile)
abbrev pub request_of_word : List ℕ → Option Request
request_of_word word =
    if bytes_eq word (codes "show") then Some Show
    else if bytes_eq word (codes "fates") then Some Fates
    else if bytes_eq word (codes "begin-anew") then Some (BeginAnew Kept)
    else if bytes_eq word (codes "begin-anew-without-fates") then Some (BeginAnew Forgotten)
    else None

abbrev pub request_by : Option (Action × Seen) → Option (Action × Seen) → Option (List ℕ) → Option Request
request_by (Some observed) within word = Some (step_request observed)
request_by None (Some observed) word = Some (Explain observed.0 observed.1)
request_by None None (Some word) = request_of_word word
request_by None None None = None

-- what a JSON value asks, if anything: a step, or the explanation of one, or what its word asks (profile)
abbrev pub request_of : Data → Option Request
request_of d = request_by (observation_of d) (explained_of d) (text_of (codes "do") d)

-- ---- why a value asks nothing (profile)

-- an explanation has the object that is to be explained
abbrev pub explanation_rows : List Row
explanation_rows = (codes "step", form.Object) ∷ []

-- of an explanation: what is wrong with the object at `step`, or that there is none
abbrev pub AreTextsWithin : Data → Option Data → List (List ℕ) → Type 0
AreTextsWithin d None texts = AreKeyTexts d explanation_rows texts
AreTextsWithin d (Some step) texts = AreStepTexts step texts

-- of any value: what is wrong with the object that it is, or that it asks to explain
abbrev pub AreTextsOf : Data → Bool → List (List ℕ) → Type 0
AreTextsOf d true texts = AreTextsWithin d (get (codes "step") d) texts
AreTextsOf d false texts = AreStepTexts d texts

abbrev pub TellsNoStep : Data → List ℕ → Type 0
TellsNoStep d text =
    (texts : List (List ℕ)) × AreTextsOf d (is_explanation d) texts
    × (text ≡ codes "no step: " ++ joined_text texts)

-- a JSON value asks this, or it asks nothing, and the text tells why (profile)
abbrev pub IsAskedIn : Data → Request → Type 0
IsAskedIn d (Fault text) = (request_of d ≡ None) × TellsNoStep d text
IsAskedIn d request = request_of d ≡ Some request

-- ---- values in the friendly form (profile)

-- the step object that a value is, or that it asks to explain
abbrev pub step_within : Data → Option Data
step_within d = if is_explanation d then get (codes "step") d else Some d

abbrev pub sense_within : List Given → Option Data → Sense
sense_within given None = Itself
sense_within given (Some step) = sense_of (Some given) step

-- what that means, where these own names are known; in a strict dialogue it is what it says
abbrev pub sense_in : Names → Data → Sense
sense_in None d = Itself
sense_in (Some given) d = sense_within given (step_within d)

-- a step is asked, to be made or to be explained
abbrev pub step_asked : (explains : Bool) → Action × Seen → Request
step_asked true observed = Explain observed.0 observed.1
step_asked false observed = step_request observed

-- this strict step is asked, or it is none, and the text tells why
abbrev pub IsStrictAsked : (explains : Bool) → Data → Request → Type 0
IsStrictAsked explains step (Fault text) =
    (observation_of step ≡ None)
    × ((texts : List (List ℕ)) × AreStepTexts step texts × (text ≡ codes "no step: " ++ joined_text texts))
IsStrictAsked explains step request = option_map (step_asked explains) (observation_of step) ≡ Some request

-- why a step asks nothing that is stuck at this key
abbrev pub stuck_text : List ℕ → List ℕ
stuck_text key = codes "no step: \"" ++ (key ++ codes "\" has no strict form")

-- a JSON value with this sense asks this
abbrev pub IsAskedAs : Sense → Data → Request → Type 0
IsAskedAs Itself d request = IsAskedIn d request
IsAskedAs (Strictly step) d request = IsStrictAsked (is_explanation d) step request
IsAskedAs (StuckAt key) d request = request ≡ Fault (stuck_text key)

-- ---- lines

-- where these own names are known, the line is a JSON value that asks this
pub record IsRead (names : Names) (line : List ℕ) (request : Request) : Type 0 where
  pub document : Data
  pub json : IsJson line document
  pub asks : IsAskedAs (sense_in names document) document request

-- the text tells that the line is no JSON text, and where and why in the words of a check (profile)
abbrev pub TellsNoJson : List ℕ → List ℕ → Type 0
TellsNoJson line text = (flaw : List ℕ) × IsFlawText line flaw × (text ≡ codes "not JSON: " ++ flaw)

-- the text tells why the line asks nothing: it is too long, or no JSON text, or its value asks nothing (profile)
abbrev pub TellsFault : Names → List ℕ → List ℕ → Type 0
TellsFault names line text =
    ((2 ^ 20 < length line) × (text ≡ codes "line too long"))
    ⊎ ((length line ≤ 2 ^ 20) × IsNoJson line × TellsNoJson line text)
    ⊎ ((length line ≤ 2 ^ 20) × IsRead names line (Fault text))

-- what a line asks where these own names are known, or why it asks nothing (profile)
abbrev pub Asks : Names → List ℕ → Request → Type 0
Asks names line (Fault text) = TellsFault names line text
Asks names line request = (length line ≤ 2 ^ 20) × IsRead names line request

-- the step that a request asks for, and what was seen of it (profile)
abbrev pub observed_in : Request → Option (Action × Seen)
observed_in (Step action seen) = Some (action, seen)
observed_in (Explain action seen) = Some (action, seen)
observed_in Show = None
observed_in Fates = None
observed_in (BeginAnew past) = None
observed_in (Fault text) = None
observed_in (Ready count) = None

-- it begins the history anew (profile)
abbrev pub begins_anew : Request → Bool
begins_anew (BeginAnew past) = true
begins_anew _ = false

abbrev pub observed_of : List Request → List (Action × Seen)
observed_of requests = filter_map observed_in requests

abbrev pub actions_of : List Request → List Action
actions_of requests = map (λ o. o.0) (observed_of requests)

-- ---- lines one after the other

-- how many steps a request asks for: one or none
abbrev pub steps_in : Request → ℕ
steps_in request = length (actions_of (request ∷ []))

-- the own names that are known behind a line that came to these records
abbrev pub names_behind : Names → List ℕ → List Record → Names
names_behind names line made = names_given_by names (option_and_then step_within (read line)) made

-- each line asks its request, where the names are known that the lines before it gave; their steps came to these
-- records, and in the end these names are known (profile)
abbrev pub AreAsked : Names → List (List ℕ) → List Request → List Record → Names → Type 0
AreAsked names [] [] records last = last ≡ names
AreAsked names [] (request ∷ requests) records last = ⊥
AreAsked names (line ∷ lines) [] records last = ⊥
AreAsked names (line ∷ lines) (request ∷ requests) records last =
    Asks names line request
    × AreAsked (names_behind names line (take (steps_in request) records)) lines requests
    (drop (steps_in request) records) last
