-- A dialogue in its course, with a line more, and at its end.
use Rattle.std.proofs.Common.{◌≡◌, ◌<◌, ◌≤◌, ◌+◌, ◌^◌, ℕ, Bool, List, [], ◌∷◌, ◌++◌, length, take, map}
use Rattle.std.proofs.Common.{refl, sym, ap, ◌∙◌, arith, append_assoc, flat_map, length-append, length-drop}
use Rattle.std.proofs.Common.{length-take, subst, suc, drop, true, false, Option, Some, None}
use Rattle.std.proofs.lemmas.List.{length-map, drop-append-le}
use Rattle.std.specs.Prelude.{option_and_then}
use Rattle.serde_json.specs.{Data.{Data}, Read.{read}}
use Rattle.dsa_regs.specs.declared.Caps.{Caps}
use Rattle.dsa_book.specs.declared.{answer.Ticket.{Ticket}, fate.FateRow.{FateRow}}
use Rattle.dsa_device.specs.Running.{Running}
use Rattle.dsa_scenario.specs.declared.{actions.Action.{Action}, run.Record.{Record}}
use Rattle.dsa_scenario.specs.Steps.{Visit}
use Rattle.dsa_scenario.specs.{Document.{IsOpenable}, Lines.{line_of_text, row_text}}
use Rattle.dsa_conform.specs.Seen.{Seen, observation_of}
use Rattle.dsa_expand.specs.Steps.{Given, given_onto, with_given}
use Rattle.dsa_serve.specs.declared.session.Session.{Session}
use Rattle.dsa_serve.specs.Names.{Names, names_given_by, names_over, own_names_of}
use Rattle.dsa_serve.specs.Requests.{Request, Ready, step_request, Asks, AreAsked, actions_of}
use Rattle.dsa_serve.specs.Requests.{names_behind, step_within, steps_in}
use Rattle.dsa_serve.specs.Answers.{AnswersOne, HasCome, IsSessionTo}
use Rattle.dsa_serve.specs.Input.{IsLine, with_rest, IsFront, IsUnended}
use Rattle.dsa_serve.specs.Dialogue.{from_document, names_at_first, IsObservedDocument, IsDialogue, IsDialogueEnded}
use Rattle.dsa_serve.specs.Dialogue.{IsTakenAs}
use Rattle.dsa_serve.specs.Dialogue.{AnswersWhole, IsServing, Serves}
use Rattle.dsa_serve.proofs.{Asking.{Asks-kept, AreAsked-more, names-kept}}
use Rattle.dsa_serve.proofs.{Sessions.{actions-more, course_count}}
use Rattle.dsa_serve.proofs.Lines.{AreLines-rest, AreLines-line}

-- one request more behind those of a document
from_document-more : (observed : List (Action × Seen)) (requests : List Request) (request : Request)
    → from_document observed requests ++ request ∷ [] ≡ from_document observed (requests ++ request ∷ [])
from_document-more observed requests request =
    append_assoc (map step_request observed) (Ready (length observed) ∷ requests) (request ∷ [])

-- ---- the records of a session

-- a session has a record for each step that its requests ask for
session_count : (caps : Caps) (capacity : ℕ) (requests : List Request) (records : List Record)
    (number : ℕ) (now : Running) (tickets : List Ticket) (told : ℕ) (output : List ℕ)
    → IsSessionTo caps capacity requests records number now tickets told output
    → length records ≡ length (actions_of requests)
session_count caps capacity requests records number now tickets told output h =
    ap (λ (l : List Record). length l) (sym h.entries)
    ∙ length-map h.steps (λ (step : Visit). step.entry)
    ∙ sym (course_count caps capacity requests h.steps output h.course)

-- a document asks for as many steps as it has
steps_asked : (observed : List (Action × Seen))
    → length (actions_of (map step_request observed)) ≡ length observed
steps_asked [] = refl
steps_asked (o ∷ observed) = ap (λ (n : ℕ). suc n) (steps_asked observed)

first_count : (observed : List (Action × Seen)) (requests : List Request)
    → length (actions_of (from_document observed requests)) ≡ length observed + length (actions_of requests)
first_count observed requests =
    ap (λ (l : List Action). length l)
    (actions-more (map step_request observed) (Ready (length observed) ∷ requests))
    ∙ length-append (actions_of (map step_request observed)) (actions_of requests)
    ∙ ap (λ n. n + length (actions_of requests)) (steps_asked observed)

-- ---- names

-- more records behind those of all steps give these no name
given_first : (given : List Given) (steps : List Data) (records more : List Record)
    → length steps ≤ length records
    → given_onto given steps (records ++ more) ≡ given_onto given steps records
given_first given [] [] [] h = refl
given_first given [] [] (m ∷ more) h = refl
given_first given [] (r ∷ records) more h = refl
given_first given (d ∷ steps) [] more h = absurd (omega (arith, h))
given_first given (d ∷ steps) (r ∷ records) more h =
    given_first (with_given given d r) steps records more (omega (arith, h))

-- one step more of as many as there are records
pub given_push : (given : List Given) (steps : List Data) (records : List Record) (d : Data) (r : Record)
    → length records ≡ length steps
    → given_onto given (steps ++ d ∷ []) (records ++ r ∷ []) ≡ with_given (given_onto given steps records) d r
given_push given [] [] d r h = refl
given_push given [] (q ∷ records) d r h = absurd (omega (arith, h))
given_push given (x ∷ steps) [] d r h = absurd (omega (arith, h))
given_push given (x ∷ steps) (q ∷ records) d r h =
    given_push (with_given given x q) steps records d r (omega (arith, h))

pub names_none : (names : Names) → names ≡ names_over names [] []
names_none None = refl
names_none (Some given) = refl

pub names_push : (names : Names) (steps : List Data) (records : List Record) (d : Data) (r : Record)
    → length records ≡ length steps
    → names_given_by (names_over names steps records) (Some d) (r ∷ [])
    ≡ names_over names (steps ++ d ∷ []) (records ++ r ∷ [])
names_push None steps records d r h = refl
names_push (Some given) steps records d r h =
    ap (λ (l : List Given). Some l) (sym (given_push given steps records d r h))

names_first : (is_friendly : Bool) (steps : List Data) (records more : List Record)
    → length steps ≤ length records
    → names_at_first is_friendly steps (records ++ more) ≡ names_at_first is_friendly steps records
names_first true steps records more h = ap (λ (l : List Given). Some l) (given_first [] steps records more h)
names_first false steps records more h = refl

-- one line more behind a document
asked_more : (is_friendly : Bool) (strict : List ℕ) (caps : Caps) (capacity : ℕ) (observed : List (Action × Seen))
    (document : IsObservedDocument strict caps capacity observed) (lines : List (List ℕ)) (requests : List Request)
    (records made : List Record) (names next : Names) (line : List ℕ) (request : Request)
    → AreAsked (names_at_first is_friendly document.steps records) lines requests (drop (length observed) records) names
    → length records ≡ length (actions_of (from_document observed requests)) → Asks names line request
    → length made ≡ steps_in request → next ≡ names_behind names line made
    → AreAsked (names_at_first is_friendly document.steps (records ++ made)) (lines ++ line ∷ [])
    (requests ++ request ∷ []) (drop (length observed) (records ++ made)) next
asked_more is_friendly strict caps capacity observed document lines requests records made names next line
    request h count asks one is =
    let n = length observed in
    let all : length records ≡ n + length (actions_of requests) = count ∙ first_count observed requests in
    let read : length document.steps ≡ n =
    sym (length-map document.steps observation_of)
    ∙ ap (λ (l : List (Option (Action × Seen))). length l) document.read
    ∙ length-map observed (λ (o : Action × Seen). Some o) in
    let within : n ≤ length records = omega (arith, all) in
    rw (
      names_first is_friendly document.steps records made (omega (arith, all, read)),
      drop-append-le n records made within,
    )
    (AreAsked-more (names_at_first is_friendly document.steps records) lines requests (drop n records) made
    names next line request h (omega (arith, all, length-drop n records)) asks one is)

-- a session that has answered one line more, of which this was kept
pub line_answered : {S : Type 0} (is_friendly : Bool) (first behind written old new piece kept : List ℕ)
    (was now : Session S) (seen : List ℕ) → IsLine piece
    → ((rest : List ℕ) → kept ≡ take (2 ^ 20 + 1) rest → seen ≡ take (2 ^ 20 + 1) (rest ++ piece))
    → AnswersOne was old now new (Asks (own_names_of was) seen) (option_and_then step_within (read seen))
    → Serves is_friendly first behind (written ++ old) was kept
    → Serves is_friendly first (behind ++ piece ++ 10 ∷ []) (written ++ new) now []
line_answered is_friendly first behind written old new piece kept was now seen line keeps it h =
    let now_kept = keeps h.rest h.keeps in
    let names = own_names_of was in
    let so_far = from_document h.observed h.requests in
    record {
      lines = h.lines ++ (h.rest ++ piece) ∷ [];
      rest = [];
      caps = h.caps;
      capacity = h.capacity;
      observed = h.observed;
      requests = h.requests ++ it.0 ∷ [];
      records = h.records ++ it.1;
      lines_are = AreLines-line behind h.lines h.rest piece line h.lines_are;
      keeps = refl;
      strict = h.strict;
      form = h.form;
      document = h.document;
      opening = h.opening;
      asked = asked_more is_friendly h.strict h.caps h.capacity h.observed h.document h.lines h.requests h.records it.1
          names (own_names_of now) (h.rest ++ piece) it.0 h.asked
          (session_count _ _ so_far h.records _ _ _ _ _ h.session)
          (Asks-kept names (h.rest ++ piece) seen it.0 now_kept it.2) it.4
          (it.5 ∙ names-kept names (h.rest ++ piece) seen it.0 it.1 now_kept it.2 it.4);
      session = subst (λ rs. HasCome h.caps h.capacity rs (h.records ++ it.1) now (written ++ new))
          (from_document-more h.observed h.requests it.0) (it.3 h.caps h.capacity so_far h.records written h.session);
    }

-- a session that has kept more of a line
pub rest_kept : {S : Type 0} (is_friendly : Bool) (first behind output piece kept seen : List ℕ) (session : Session S)
    → IsLine piece
    → ((rest : List ℕ) → kept ≡ take (2 ^ 20 + 1) rest → seen ≡ take (2 ^ 20 + 1) (rest ++ piece))
    → Serves is_friendly first behind output session kept
    → Serves is_friendly first (behind ++ piece) output session seen
rest_kept is_friendly first behind output piece kept seen session line keeps h = record {
  lines = h.lines;
  rest = h.rest ++ piece;
  caps = h.caps;
  capacity = h.capacity;
  observed = h.observed;
  requests = h.requests;
  records = h.records;
  lines_are = AreLines-rest behind h.lines h.rest piece line h.lines_are;
  keeps = keeps h.rest h.keeps;
  strict = h.strict;
  form = h.form;
  document = h.document;
  opening = h.opening;
  asked = h.asked;
  session = h.session;
}

-- what a session has answered that began with a document
dialogue_by : (is_friendly : Bool) (first strict : List ℕ) (form : IsTakenAs is_friendly first strict)
    (lines : List (List ℕ)) (output : List ℕ) (caps : Caps) (capacity : ℕ)
    (observed : List (Action × Seen)) (requests : List Request) (records : List Record) (number : ℕ) (now : Running)
    (tickets : List Ticket) (told : ℕ) (names : Names)
    (document : IsObservedDocument strict caps capacity observed)
    → IsOpenable caps capacity
    → AreAsked (names_at_first is_friendly document.steps records) lines requests
    (drop (length observed) records) names
    → IsSessionTo caps capacity (from_document observed requests) records number now tickets told output
    → IsDialogue is_friendly first lines now.state output
dialogue_by is_friendly first strict form lines output caps capacity observed requests records number now tickets told
    names document opening asked session = record {
      caps = caps;
      capacity = capacity;
      observed = observed;
      requests = requests;
      steps = session.steps;
      strict = strict;
      form = form;
      document = document;
      opening = opening;
      names = names;
      asked = subst (λ rs. AreAsked (names_at_first is_friendly document.steps rs) lines requests
          (drop (length observed) rs) names) (sym session.entries) asked;
      course = session.course;
      led_to = ap (λ (d : Running). d.state) session.now_is;
    }

dialogue_of : (is_friendly : Bool) (first behind output : List ℕ) (number : ℕ) (now : Running)
    (tickets : List Ticket) (told : ℕ) (names : Names) (kept : List ℕ)
    → (h : IsServing is_friendly first behind output number now tickets told names kept)
    → IsDialogue is_friendly first h.lines now.state output
dialogue_of is_friendly first behind output number now tickets told names kept h =
    dialogue_by is_friendly first h.strict h.form h.lines output h.caps h.capacity h.observed h.requests
    h.records number now tickets told names h.document h.opening h.asked h.session

-- the answers to whole lines
pub whole_answered : {S : Type 0} (is_friendly : Bool) (first behind output : List ℕ) (session : Session S)
    (kept : List ℕ) (ended : Bool) (input : List ℕ) → IsUnended first → length first ≤ 2 ^ 20
    → IsFront ended input first behind → Serves is_friendly first behind output session kept
    → AnswersWhole is_friendly ended input output
whole_answered is_friendly first behind output session kept ended input unended short front h = record {
  first = first;
  behind = behind;
  lines = h.lines;
  rest = h.rest;
  last = session.device.state;
  split = record { unended = unended; short = short; front = front };
  lines_are = h.lines_are;
  dialogue = dialogue_of is_friendly first behind output _ _ _ _ _ kept h;
}

-- where nothing is kept there is nothing, and where something is kept the rest counts as a line
nothing_kept : (n : ℕ) (rest : List ℕ) → take (n + 1) rest ≡ [] → rest ≡ []
nothing_kept n [] e = refl
nothing_kept n (b ∷ rest) e = absurd (omega (arith, ap length e, length-take (n + 1) (b ∷ rest)))

counted : (n : ℕ) (lines : List (List ℕ)) (rest : List ℕ) → 0 < length (take n rest)
    → lines ++ rest ∷ [] ≡ with_rest lines rest
counted n lines [] some = absurd (omega (arith, some, length-take {A = ℕ} n []))
counted n lines (b ∷ rest) some = refl

-- fates behind what is answered
fates_behind : (written old new : List ℕ) (rows fates : List FateRow) → rows ≡ fates
    → new ≡ old ++ flat_map (λ row. line_of_text (row_text row)) rows
    → written ++ new ≡ (written ++ old) ++ flat_map (λ row. line_of_text (row_text row)) fates
fates_behind written old new rows fates is adds =
    ap (λ l. written ++ l) adds
    ∙ sym (append_assoc written old (flat_map (λ row. line_of_text (row_text row)) rows))
    ∙ ap (λ rs. (written ++ old) ++ flat_map (λ row. line_of_text (row_text row)) rs) is

-- the end of a dialogue with no rest of a line
pub ended_whole : {S : Type 0} (is_friendly : Bool) (first behind written old new : List ℕ) (session : Session S)
    (kept : List ℕ) (rows : List FateRow) → kept ≡ [] → rows ≡ session.device.state.work.fates
    → new ≡ old ++ flat_map (λ row. line_of_text (row_text row)) rows
    → Serves is_friendly first behind (written ++ old) session kept
    → IsDialogueEnded is_friendly first behind (written ++ new)
ended_whole is_friendly first behind written old new session kept rows none is adds h =
    let blank : h.rest ≡ [] = nothing_kept (2 ^ 20) h.rest (sym h.keeps ∙ none) in
    let last = session.device.state in
    record {
      lines = h.lines;
      rest = h.rest;
      last = last;
      answered = written ++ old;
      lines_are = h.lines_are;
      dialogue =
          let all : h.lines ≡ with_rest h.lines h.rest = sym (ap (with_rest h.lines) blank) in
          subst (λ ls. IsDialogue is_friendly first ls last (written ++ old)) all
          (dialogue_of is_friendly first behind (written ++ old) _ _ _ _ _ kept h);
      with_fates = fates_behind written old new rows last.work.fates is adds;
    }

-- and with one, which is answered as a line
pub ended_rest : {S : Type 0} (is_friendly : Bool) (first behind written old mid new : List ℕ) (was now : Session S)
    (kept seen : List ℕ) (rows : List FateRow) → 0 < length kept → seen ≡ kept
    → AnswersOne was old now mid (Asks (own_names_of was) seen) (option_and_then step_within (read seen))
    → rows ≡ now.device.state.work.fates → new ≡ mid ++ flat_map (λ row. line_of_text (row_text row)) rows
    → Serves is_friendly first behind (written ++ old) was kept
    → IsDialogueEnded is_friendly first behind (written ++ new)
ended_rest is_friendly first behind written old mid new was now kept seen rows some same it is adds h =
    let names = own_names_of was in
    let so_far = from_document h.observed h.requests in
    let session = subst (λ rs. HasCome h.caps h.capacity rs (h.records ++ it.1) now (written ++ mid))
    (from_document-more h.observed h.requests it.0) (it.3 h.caps h.capacity so_far h.records written h.session) in
    let asks : Asks names h.rest it.0 = Asks-kept names h.rest seen it.0 (same ∙ h.keeps) it.2 in
    let asked = asked_more is_friendly h.strict h.caps h.capacity h.observed h.document h.lines h.requests
    h.records it.1 names (own_names_of now) h.rest it.0 h.asked
    (session_count _ _ so_far h.records _ _ _ _ _ h.session) asks it.4
    (it.5 ∙ names-kept names h.rest seen it.0 it.1 (same ∙ h.keeps) it.2 it.4) in
    let last : h.lines ++ h.rest ∷ [] ≡ with_rest h.lines h.rest =
    counted (2 ^ 20 + 1) h.lines h.rest (rw h.keeps at some) in
    record {
      lines = h.lines;
      rest = h.rest;
      last = now.device.state;
      answered = written ++ mid;
      lines_are = h.lines_are;
      dialogue = subst (λ ls. IsDialogue is_friendly first ls now.device.state (written ++ mid)) last
          (dialogue_by is_friendly first h.strict h.form (h.lines ++ h.rest ∷ []) (written ++ mid) h.caps h.capacity
          h.observed (h.requests ++ it.0 ∷ []) (h.records ++ it.1) _ _ _ _ _ h.document h.opening asked session);
      with_fates = fates_behind written mid new rows now.device.state.work.fates is adds;
    }
