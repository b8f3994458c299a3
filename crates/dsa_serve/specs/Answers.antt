-- What is answered.
use Rattle.std.specs.Prelude.{◌≡◌, ℕ, Bool, true, false, List, [], ◌∷◌, ◌++◌, length, codes, ⊤}
use Rattle.std.specs.Prelude.{decimal, drop, flat_map, map, Option, ◌+◌}
use Rattle.std.specs.Prelude.{slice_get}
use Rattle.serde_json.specs.Data.{Data}
use Rattle.dsa_regs.specs.declared.Caps.{Caps}
use Rattle.dsa_book.specs.declared.answer.Ticket.{Ticket}
use Rattle.dsa_book.specs.declared.fate.{FateRow.{FateRow}}
use Rattle.dsa_book.specs.declared.fate.{PastFates.{PastFates, TheVariants.{Kept, Forgotten}}}
use Rattle.dsa_device.specs.Running.{Running, running_at_first, running_anew}
use Rattle.dsa_scenario.specs.declared.{actions.Action.{Action}, run.Record.{Record}}
use Rattle.dsa_scenario.specs.{Lines.{record_text, row_text, line_of_text}, Steps.{Visit}}
use Rattle.dsa_scenario.specs.Run.{answered_by, AreOf, IsTable, Leads}
use Rattle.dsa_explain_lines.specs.Lines.{explanation_of_step}
use Rattle.dsa_trace.specs.Columns.{state_object}
use Rattle.dsa_conform.specs.{Seen.{Seen, shows}, Allowed.{NoneShows}}
use Rattle.dsa_serve.specs.Requests.{Request, Step, Explain, Show, Fates, BeginAnew, Fault, Ready}
use Rattle.dsa_serve.specs.Requests.{observed_of, actions_of, steps_in}
use Rattle.dsa_serve.specs.declared.session.Session.{Session}
use Rattle.dsa_serve.specs.Names.{names_given_by, own_names_of}

-- why a line asks nothing (profile)
abbrev pub refusal_line : List ℕ → List ℕ
refusal_line why = codes "fault " ++ why

-- a document was taken, and its steps, so many, were made (profile)
abbrev pub ready_text : ℕ → List ℕ
ready_text count = codes "ready " ++ decimal count

-- the word before an answer that does not show what was seen of it (profile)
abbrev pub difference : Bool → List ℕ
difference true = []
difference false = codes "differs "

-- the object of the device as it stands, which a row of the trace has the members of (profile)
abbrev pub shown_text : Running → List ℕ
shown_text now = line_of_text (state_object now.caps now.state)

-- how many fates there are, and each in its line (profile)
abbrev pub new_fates_text : List FateRow → List ℕ
new_fates_text fates =
    line_of_text (codes "fates " ++ decimal (length fates))
    ++ flat_map (λ row. line_of_text (row_text row)) fates

-- the fates of a device of which the first so many were told
abbrev pub new_fates : Running → ℕ → List FateRow
new_fates now told = drop told now.state.work.fates

-- the history begins anew (profile)
abbrev pub anew_text : List ℕ
anew_text = codes "begun anew"

-- how many of the fates that are left were told, where so many were and the history begins anew (profile)
abbrev pub told_anew : PastFates → ℕ → ℕ
told_anew Kept told = told
told_anew Forgotten told = 0

-- from a device that stands so, of which so many fates were told, an answer to each request: of the steps, what they
-- came to in turn; of the others, what shows the device where the requests before have led it (profile)
abbrev pub answers : Running → ℕ → List Request → List Visit → List ℕ
answers now told [] steps = []
answers now told (Fault why ∷ requests) steps =
    line_of_text (refusal_line why) ++ answers now told requests steps
answers now told (Ready count ∷ requests) steps =
    line_of_text (ready_text count) ++ answers now told requests steps
answers now told (Show ∷ requests) steps = shown_text now ++ answers now told requests steps
answers now told (Fates ∷ requests) steps =
    new_fates_text (new_fates now told) ++ answers now (length now.state.work.fates) requests steps
answers now told (BeginAnew past ∷ requests) steps =
    line_of_text anew_text ++ answers (running_anew now past) (told_anew past told) requests steps
answers now told (Step action seen ∷ requests) [] = []
answers now told (Step action seen ∷ requests) (step ∷ steps) =
    (difference (shows seen step.entry) ++ line_of_text (record_text step.entry))
    ++ answers step.after told requests steps
answers now told (Explain action seen ∷ requests) [] = []
answers now told (Explain action seen ∷ requests) (step ∷ steps) =
    (difference (shows seen step.entry) ++ explanation_of_step step) ++ answers step.after told requests steps

-- how many fates were told when these requests have been answered
abbrev pub fates_told_after : Running → ℕ → List Request → List Visit → ℕ
fates_told_after now told [] steps = told
fates_told_after now told (Fault why ∷ requests) steps = fates_told_after now told requests steps
fates_told_after now told (Ready count ∷ requests) steps = fates_told_after now told requests steps
fates_told_after now told (Show ∷ requests) steps = fates_told_after now told requests steps
fates_told_after now told (Fates ∷ requests) steps =
    fates_told_after now (length now.state.work.fates) requests steps
fates_told_after now told (BeginAnew past ∷ requests) steps =
    fates_told_after (running_anew now past) (told_anew past told) requests steps
fates_told_after now told (Step action seen ∷ requests) [] = told
fates_told_after now told (Step action seen ∷ requests) (step ∷ steps) =
    fates_told_after step.after told requests steps
fates_told_after now told (Explain action seen ∷ requests) [] = told
fates_told_after now told (Explain action seen ∷ requests) (step ∷ steps) =
    fates_told_after step.after told requests steps

-- ---- where requests lead

-- where requests that came to these steps have led a device that stood so (profile)
abbrev pub after_requests : Running → List Request → List Visit → Running
after_requests now [] steps = now
after_requests now (BeginAnew past ∷ requests) steps = after_requests (running_anew now past) requests steps
after_requests now (Step action seen ∷ requests) [] = now
after_requests now (Step action seen ∷ requests) (step ∷ steps) = after_requests step.after requests steps
after_requests now (Explain action seen ∷ requests) [] = now
after_requests now (Explain action seen ∷ requests) (step ∷ steps) = after_requests step.after requests steps
after_requests now (request ∷ requests) steps = after_requests now requests steps

-- this step is the one of this number of a device that stands so: its record leads on (profile)
pub record IsVisitFrom (now : Running) (number : ℕ) (step : Visit) : Type 0 where
  pub number_is : step.number ≡ number
  pub before : step.before ≡ now
  pub leads : Leads now step.entry step.after

-- from a device that stands so, after so many steps, the requests come to these steps: each goes on from where the one
-- before it has led, or from where the history began anew behind that (profile)
abbrev pub AreStepsOf : Running → ℕ → List Request → List Visit → Type 0
AreStepsOf now number [] [] = ⊤
AreStepsOf now number [] (step ∷ steps) = ⊥
AreStepsOf now number (BeginAnew past ∷ requests) steps =
    AreStepsOf (running_anew now past) number requests steps
AreStepsOf now number (Step action seen ∷ requests) [] = ⊥
AreStepsOf now number (Step action seen ∷ requests) (step ∷ steps) =
    IsVisitFrom now number step × AreStepsOf step.after (number + 1) requests steps
AreStepsOf now number (Explain action seen ∷ requests) [] = ⊥
AreStepsOf now number (Explain action seen ∷ requests) (step ∷ steps) =
    IsVisitFrom now number step × AreStepsOf step.after (number + 1) requests steps
AreStepsOf now number (request ∷ requests) steps = AreStepsOf now number requests steps

-- ---- what was seen

-- each answer shows what was seen of it, unless none does that the device may give where the step begins (profile)
abbrev pub AreClosest : List (Action × Seen) → List Visit → Type 0
AreClosest [] steps = ⊤
AreClosest (observed ∷ more) [] = ⊤
AreClosest (observed ∷ more) (step ∷ steps) =
    (shows observed.1 step.entry ≡ false → NoneShows step.before (answered_by step.entry) observed.1)
    × AreClosest more steps

-- ---- sessions

-- the records of these steps
abbrev pub records_of_visits : List Visit → List Record
records_of_visits steps = map (λ step. step.entry) steps

-- on a new device of these caps and this capacity the requests have come to these steps, and the output answers them:
-- a step is what the machine answers where those before it have led the device, and shows what was seen unless nothing
-- shows it that the device may answer (profile)
pub record IsCourse (caps : Caps) (capacity : ℕ) (requests : List Request) (steps : List Visit)
    (output : List ℕ) : Type 0 where
  pub of_actions : AreOf [] (actions_of requests) (records_of_visits steps)
  pub led : AreStepsOf (running_at_first caps capacity) 0 requests steps
  pub closest : AreClosest (observed_of requests) steps
  pub answered : output ≡ answers (running_at_first caps capacity) 0 requests steps

-- so far a session has come by these requests to these records, and the output answers them (profile)
pub record IsSessionTo (caps : Caps) (capacity : ℕ) (requests : List Request) (records : List Record)
    (number : ℕ) (now : Running) (tickets : List Ticket) (told : ℕ) (output : List ℕ) : Type 0 where
  pub steps : List Visit
  pub course : IsCourse caps capacity requests steps output
  pub entries : records_of_visits steps ≡ records
  pub count : length steps ≡ number
  pub now_is : after_requests (running_at_first caps capacity) requests steps ≡ now
  pub told_is : fates_told_after (running_at_first caps capacity) 0 requests steps ≡ told
  pub table : IsTable (slice_get tickets) records
  pub in_turn : length tickets ≡ now.state.work.setup.next_name

-- the same of a session of the program
abbrev pub HasCome : {S : Type 0} → Caps → ℕ → List Request → List Record → Session S → List ℕ → Type 0
HasCome caps capacity requests records session output =
    IsSessionTo caps capacity requests records session.number session.device session.tickets.items session.told output

-- wherever the first session and this text have come, one request more, with these records, has come to the second
-- session and that text
abbrev pub ComesBy : {S : Type 0} → Session S → List ℕ → Session S → List ℕ → Request → List Record → Type 0
ComesBy was old now new request made =
    (caps : Caps) (capacity : ℕ) (requests : List Request) (records : List Record) (written : List ℕ)
    → HasCome caps capacity requests records was (written ++ old)
    → HasCome caps capacity (requests ++ request ∷ []) (records ++ made) now (written ++ new)

-- by this request it makes a step, whose record gives its name to the own name of this step object
abbrev pub MakesStep : {S : Type 0} → Session S → List ℕ → Session S → List ℕ → Request → Option Data → Type 0
MakesStep was old now new request own =
    (entry : Record) × ComesBy was old now new request (entry ∷ [])
    × (own_names_of now ≡ names_given_by (own_names_of was) own (entry ∷ []))

-- by this one it makes none, and learns no name
abbrev pub MakesNoStep : {S : Type 0} → Session S → List ℕ → Session S → List ℕ → Request → Type 0
MakesNoStep was old now new request = ComesBy was old now new request [] × (own_names_of now ≡ own_names_of was)

-- it answers a request that is asked so, whose step gives its name to the own name of this step object
abbrev pub AnswersOne : {S : Type 0} → Session S → List ℕ → Session S → List ℕ → (Request → Type 0) → Option Data
    → Type 0
AnswersOne was old now new asked own =
    (request : Request) × (made : List Record) × asked request × ComesBy was old now new request made
    × (length made ≡ steps_in request) × (own_names_of now ≡ names_given_by (own_names_of was) own made)
