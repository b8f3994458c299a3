-- One request more of a session.
use Rattle.std.proofs.Common.{◌≡◌, ℕ, false, List, [], ◌∷◌, ◌++◌, Some, None, Result, refl, ap, ◌∙◌}
use Rattle.std.proofs.Common.{sym, ◌+◌, length}
use Rattle.std.proofs.Common.{append_assoc, append-nil, filter_map, length-append, arith, map, subst}
use Rattle.std.proofs.lemmas.List.{length-map, map-append, Elements.{filter_map-append}}
use Rattle.std.specs.Prelude.{slice_get}
use Rattle.dsa_regs.specs.declared.Caps.{Caps}
use Rattle.dsa_book.specs.declared.{answer.Ticket.{Ticket}, event.Event.{Event}, fate.PastFates.{PastFates}}
use Rattle.dsa_device.specs.Running.{Running, running_at_first, running_anew}
use Rattle.dsa_scenario.specs.declared.actions.BadWord.{BadWord}
use Rattle.dsa_scenario.specs.declared.{actions.Action.{Action}, run.Record.{Record}}
use Rattle.dsa_scenario.specs.Lines.{record_text, line_of_text}
use Rattle.dsa_scenario.specs.Run.{ticket_given_by, event_of, answered_by, AreOf, IsTable}
use Rattle.dsa_scenario.specs.Steps.{Visit, visit, IsAtFirst}
use Rattle.dsa_scenario.proofs.{Records.{AreOf-push, gives}, Tickets.{IsTable-noted}, Walks.{records_count}}
use Rattle.dsa_explain_lines.specs.Lines.{explanation_of_step}
use Rattle.dsa_conform.specs.{Seen.{Seen, shows}, Allowed.{IsClosest, NoneShows}}
use Rattle.dsa_serve.specs.Requests.{Request, Step, Explain, Show, Fates, BeginAnew, Fault, Ready}
use Rattle.dsa_serve.specs.Requests.{observed_in}
use Rattle.dsa_serve.specs.Requests.{actions_of, observed_of}
use Rattle.dsa_serve.specs.Answers.{refusal_line, ready_text, difference, shown_text}
use Rattle.dsa_serve.specs.Answers.{new_fates_text, new_fates, answers}
use Rattle.dsa_serve.specs.Answers.{anew_text, told_anew, fates_told_after, after_requests, records_of_visits}
use Rattle.dsa_serve.specs.Answers.{AreClosest, AreStepsOf, IsCourse, IsSessionTo, ComesBy}
use Rattle.dsa_serve.specs.declared.session.Session.{Session}

-- what requests ask, and more
observed-more : (requests more : List Request)
    → observed_of (requests ++ more) ≡ observed_of requests ++ observed_of more
observed-more requests more = filter_map-append observed_in requests more

pub actions-more : (requests more : List Request)
    → actions_of (requests ++ more) ≡ actions_of requests ++ actions_of more
actions-more requests more =
    ap (map (λ (o : Action × Seen). o.0)) (observed-more requests more)
    ∙ map-append (λ (o : Action × Seen). o.0) (observed_of requests) (observed_of more)

-- a step behind so many
one_more : (number : ℕ) (v : Visit) (steps : List Visit)
    → number + length (v ∷ steps) ≡ (number + 1) + length steps
one_more number v steps = omega arith

none_more : (number : ℕ) → number + 0 ≡ number
none_more number = omega arith

-- the answers to requests and to more
module _ (more : List Request) (next : List Visit) where
  answers-more : (now : Running) (told : ℕ) (requests : List Request) (steps : List Visit)
      → length (actions_of requests) ≡ length steps
      → answers now told (requests ++ more) (steps ++ next)
      ≡ answers now told requests steps ++ answers (after_requests now requests steps)
      (fates_told_after now told requests steps) more next
  answers-more now told [] [] h = refl
  answers-more now told [] (v ∷ steps) h = absurd (omega (arith, h))
  answers-more now told (Fault why ∷ requests) steps h =
      let line = line_of_text (refusal_line why) in
      ap (λ l. line ++ l) (answers-more now told requests steps h)
      ∙ sym (append_assoc line (answers now told requests steps) _)
  answers-more now told (Ready count ∷ requests) steps h =
      let line = line_of_text (ready_text count) in
      ap (λ l. line ++ l) (answers-more now told requests steps h)
      ∙ sym (append_assoc line (answers now told requests steps) _)
  answers-more now told (Show ∷ requests) steps h =
      ap (λ l. shown_text now ++ l) (answers-more now told requests steps h)
      ∙ sym (append_assoc (shown_text now) (answers now told requests steps) _)
  answers-more now told (Fates ∷ requests) steps h =
      let lines = new_fates_text (new_fates now told) in
      let all = length now.state.work.fates in
      ap (λ l. lines ++ l) (answers-more now all requests steps h)
      ∙ sym (append_assoc lines (answers now all requests steps) _)
  answers-more now told (BeginAnew past ∷ requests) steps h =
      let line = line_of_text anew_text in
      let new = running_anew now past in
      ap (λ l. line ++ l) (answers-more new (told_anew past told) requests steps h)
      ∙ sym (append_assoc line (answers new (told_anew past told) requests steps) _)
  answers-more now told (Step action seen ∷ requests) [] h = absurd (omega (arith, h))
  answers-more now told (Explain action seen ∷ requests) [] h = absurd (omega (arith, h))
  answers-more now told (Step action seen ∷ requests) (v ∷ steps) h =
      let line = difference (shows seen v.entry) ++ line_of_text (record_text v.entry) in
      ap (λ l. line ++ l) (answers-more v.after told requests steps (omega (arith, h)))
      ∙ sym (append_assoc line (answers v.after told requests steps) _)
  answers-more now told (Explain action seen ∷ requests) (v ∷ steps) h =
      let line = difference (shows seen v.entry) ++ explanation_of_step v in
      ap (λ l. line ++ l) (answers-more v.after told requests steps (omega (arith, h)))
      ∙ sym (append_assoc line (answers v.after told requests steps) _)

  -- and the fates that are told then
  told-more : (now : Running) (told : ℕ) (requests : List Request) (steps : List Visit)
      → length (actions_of requests) ≡ length steps
      → fates_told_after now told (requests ++ more) (steps ++ next)
      ≡ fates_told_after (after_requests now requests steps)
      (fates_told_after now told requests steps) more next
  told-more now told [] [] h = refl
  told-more now told [] (v ∷ steps) h = absurd (omega (arith, h))
  told-more now told (Fault why ∷ requests) steps h = told-more now told requests steps h
  told-more now told (Ready count ∷ requests) steps h = told-more now told requests steps h
  told-more now told (Show ∷ requests) steps h = told-more now told requests steps h
  told-more now told (Fates ∷ requests) steps h = told-more now (length now.state.work.fates) requests steps h
  told-more now told (BeginAnew past ∷ requests) steps h =
      told-more (running_anew now past) (told_anew past told) requests steps h
  told-more now told (Step action seen ∷ requests) [] h = absurd (omega (arith, h))
  told-more now told (Explain action seen ∷ requests) [] h = absurd (omega (arith, h))
  told-more now told (Step action seen ∷ requests) (v ∷ steps) h =
      told-more v.after told requests steps (omega (arith, h))
  told-more now told (Explain action seen ∷ requests) (v ∷ steps) h =
      told-more v.after told requests steps (omega (arith, h))

  -- and where they lead
  led-more : (now : Running) (requests : List Request) (steps : List Visit)
      → length (actions_of requests) ≡ length steps
      → after_requests now (requests ++ more) (steps ++ next)
      ≡ after_requests (after_requests now requests steps) more next
  led-more now [] [] h = refl
  led-more now [] (v ∷ steps) h = absurd (omega (arith, h))
  led-more now (Fault why ∷ requests) steps h = led-more now requests steps h
  led-more now (Ready count ∷ requests) steps h = led-more now requests steps h
  led-more now (Show ∷ requests) steps h = led-more now requests steps h
  led-more now (Fates ∷ requests) steps h = led-more now requests steps h
  led-more now (BeginAnew past ∷ requests) steps h = led-more (running_anew now past) requests steps h
  led-more now (Step action seen ∷ requests) [] h = absurd (omega (arith, h))
  led-more now (Explain action seen ∷ requests) [] h = absurd (omega (arith, h))
  led-more now (Step action seen ∷ requests) (v ∷ steps) h =
      led-more v.after requests steps (omega (arith, h))
  led-more now (Explain action seen ∷ requests) (v ∷ steps) h =
      led-more v.after requests steps (omega (arith, h))

  -- and the steps that they come to
  steps-more : (now : Running) (number : ℕ) (requests : List Request) (steps : List Visit)
      → AreStepsOf now number requests steps
      → AreStepsOf (after_requests now requests steps) (number + length steps) more next
      → AreStepsOf now number (requests ++ more) (steps ++ next)
  steps-more now number [] [] h behind = subst (λ n. AreStepsOf now n more next) (none_more number) behind
  steps-more now number [] (v ∷ steps) h behind = absurd h
  steps-more now number (Fault why ∷ requests) steps h behind = steps-more now number requests steps h behind
  steps-more now number (Ready count ∷ requests) steps h behind =
      steps-more now number requests steps h behind
  steps-more now number (Show ∷ requests) steps h behind = steps-more now number requests steps h behind
  steps-more now number (Fates ∷ requests) steps h behind = steps-more now number requests steps h behind
  steps-more now number (BeginAnew past ∷ requests) steps h behind =
      steps-more (running_anew now past) number requests steps h behind
  steps-more now number (Step action seen ∷ requests) [] h behind = absurd h
  steps-more now number (Explain action seen ∷ requests) [] h behind = absurd h
  steps-more now number (Step action seen ∷ requests) (v ∷ steps) h behind = (
    h.0,
    steps-more v.after (number + 1) requests steps h.1
        (subst (λ n. AreStepsOf (after_requests v.after requests steps) n more next)
        (one_more number v steps) behind),
  )
  steps-more now number (Explain action seen ∷ requests) (v ∷ steps) h behind = (
    h.0,
    steps-more v.after (number + 1) requests steps h.1
        (subst (λ n. AreStepsOf (after_requests v.after requests steps) n more next)
        (one_more number v steps) behind),
  )

-- one step more, by what was seen of it
closest-more : (done : List (Action × Seen)) (o : Action × Seen) (steps : List Visit) (step : Visit)
    → AreClosest done steps → length done ≡ length steps
    → (shows o.1 step.entry ≡ false → NoneShows step.before (answered_by step.entry) o.1)
    → AreClosest (done ++ o ∷ []) (steps ++ step ∷ [])
closest-more [] o [] step h count best = (best, tt)
closest-more [] o (v ∷ steps) step h count best = absurd (omega (arith, count))
closest-more (p ∷ done) o [] step h count best = absurd (omega (arith, count))
closest-more (p ∷ done) o (v ∷ steps) step h count best =
    (h.0, closest-more done o steps step h.1 (omega (arith, count)) best)

-- to a device that stands so, of which so many fates were told, a request that comes to these steps adds this text, and
-- so many are told then
abbrev AddsAnswer : Running → ℕ → Request → List Visit → List ℕ → ℕ → Type 0
AddsAnswer now told request next line told' =
    (answers now told (request ∷ []) next ≡ line) × (fates_told_after now told (request ∷ []) next ≡ told')

-- the output and the fates that were told, with a request more
answered-more : (first now : Running) (told told' : ℕ) (requests : List Request) (request : Request)
    (steps next : List Visit) (output line : List ℕ) → length (actions_of requests) ≡ length steps
    → after_requests first requests steps ≡ now → fates_told_after first 0 requests steps ≡ told
    → AddsAnswer now told request next line told'
    → output ≡ answers first 0 requests steps
    → (output ++ line ≡ answers first 0 (requests ++ request ∷ []) (steps ++ next))
    × (fates_told_after first 0 (requests ++ request ∷ []) (steps ++ next) ≡ told')
answered-more first now told told' requests request steps next output line count stands before adds is =
    let here = after_requests first requests steps in
    let so_far = fates_told_after first 0 requests steps in
    let text : answers here so_far (request ∷ []) next ≡ line = rw (stands, before) adds.0 in
    let last : fates_told_after here so_far (request ∷ []) next ≡ told' = rw (stands, before) adds.1 in (
      ap (λ l. l ++ line) is ∙ ap (λ l. answers first 0 requests steps ++ l) (sym text)
          ∙ sym (answers-more (request ∷ []) next first 0 requests steps count),
      told-more (request ∷ []) next first 0 requests steps count ∙ last,
    )

-- requests come to as many steps as they ask for
pub course_count : (caps : Caps) (capacity : ℕ) (requests : List Request)
    (steps : List Visit) (output : List ℕ)
    → IsCourse caps capacity requests steps output → length (actions_of requests) ≡ length steps
course_count caps capacity requests steps output h =
    sym (records_count [] (actions_of requests) (records_of_visits steps) h.of_actions)
    ∙ length-map steps (λ (v : Visit). v.entry)

-- a course with a request more, which adds this line and comes to these steps
course_more : (caps : Caps) (capacity : ℕ) (now : Running) (told told' : ℕ) (requests : List Request)
    (request : Request) (steps next : List Visit) (number : ℕ) (output line : List ℕ)
    (h : IsCourse caps capacity requests steps output) → length steps ≡ number
    → after_requests (running_at_first caps capacity) requests steps ≡ now
    → fates_told_after (running_at_first caps capacity) 0 requests steps ≡ told
    → AddsAnswer now told request next line told' → AreStepsOf now number (request ∷ []) next
    → AreOf [] (actions_of (requests ++ request ∷ [])) (records_of_visits (steps ++ next))
    → AreClosest (observed_of (requests ++ request ∷ [])) (steps ++ next)
    → IsCourse caps capacity (requests ++ request ∷ []) (steps ++ next) (output ++ line)
course_more caps capacity now told told' requests request steps next number output line h many stands before
    adds led of_actions closest =
    let first = running_at_first caps capacity in
    let count = course_count caps capacity requests steps output h in
    let here : 0 + length steps ≡ number = omega (arith, many) in
    let behind : AreStepsOf (after_requests first requests steps) number (request ∷ []) next =
    rw stands led in
    record {
      of_actions = of_actions;
      led = steps-more (request ∷ []) next first 0 requests steps h.led
          (subst (λ n. AreStepsOf (after_requests first requests steps) n (request ∷ []) next)
          (sym here) behind);
      closest = closest;
      answered = (answered-more first now told told' requests request steps next output line count stands
          before adds h.answered).0;
    }

-- a session with one request more that is a step
pub stepped : (caps : Caps) (capacity : ℕ)
    (requests : List Request) (records : List Record) (request : Request) (o : Action × Seen) (number : ℕ)
    (now new : Running) (tickets more : List Ticket) (told : ℕ) (written old text line : List ℕ)
    (entry : Record) (asked : Result Event BadWord) → observed_in request ≡ Some o
    → ((before : List Record) → IsTable (slice_get tickets) before → asked ≡ event_of before o.0)
    → IsClosest now asked o.1 new entry → more ≡ tickets ++ filter_map ticket_given_by (entry ∷ [])
    → text ≡ old ++ line
    → AddsAnswer now told request (visit number now entry new ∷ []) line told
    → (AreStepsOf now number (request ∷ []) (visit number now entry new ∷ [])
    × (after_requests now (request ∷ []) (visit number now entry new ∷ []) ≡ new))
    → IsSessionTo caps capacity requests records number now tickets told (written ++ old)
    → IsSessionTo caps capacity (requests ++ request ∷ []) (records ++ entry ∷ []) (number + 1) new more told
    (written ++ text)
stepped caps capacity requests records request o number now new tickets more told written old text line entry
    asked is asks closest noted longer adds leads h =
    let first = running_at_first caps capacity in
    let step = visit number now entry new in
    let one : observed_of (request ∷ []) ≡ o ∷ [] = rw is refl in
    let all : observed_of (requests ++ request ∷ []) ≡ observed_of requests ++ o ∷ [] =
    observed-more requests (request ∷ []) ∙ ap (λ l. observed_of requests ++ l) one in
    let asked_all : actions_of (requests ++ request ∷ []) ≡ actions_of requests ++ o.0 ∷ [] =
    actions-more requests (request ∷ [])
    ∙ ap (λ l. actions_of requests ++ map (λ (o : Action × Seen). o.0) l) one in
    let entries : records_of_visits (h.steps ++ step ∷ []) ≡ records_of_visits h.steps ++ entry ∷ [] =
    map-append (λ (v : Visit). v.entry) h.steps (step ∷ []) in
    let best : shows o.1 entry ≡ false → NoneShows now (answered_by entry) o.1 =
    subst (λ a. shows o.1 entry ≡ false → NoneShows now a o.1) (sym closest.answers) closest.best in
    let table : IsTable (slice_get tickets) (records_of_visits h.steps) = rw h.entries h.table in
    let of_all : AreOf [] (actions_of requests ++ o.0 ∷ []) (records_of_visits h.steps ++ entry ∷ []) =
    AreOf-push [] (actions_of requests) (records_of_visits h.steps) o.0 entry h.course.of_actions
    (closest.answers ∙ asks (records_of_visits h.steps) table) in
    let count = course_count caps capacity requests h.steps (written ++ old) h.course in
    let seen : length (observed_of requests) ≡ length h.steps =
    sym (length-map (observed_of requests) (λ (o : Action × Seen). o.0)) ∙ count in
    let named = gives now new entry closest.leads in
    let done = course_more caps capacity now told told requests request h.steps (step ∷ []) number
    (written ++ old) line h.course h.count h.now_is h.told_is adds leads.0
    (rw (asked_all, entries) of_all)
    (subst (λ l. AreClosest l (h.steps ++ step ∷ [])) (sym all)
    (closest-more (observed_of requests) o h.steps step h.course.closest seen best)) in
    record {
      steps = h.steps ++ step ∷ [];
      course = subst (λ text. IsCourse caps capacity (requests ++ request ∷ []) (h.steps ++ step ∷ []) text)
          (append_assoc written old line ∙ ap (λ l. written ++ l) (sym longer)) done;
      entries = entries ∙ ap (λ l. l ++ entry ∷ []) h.entries;
      count = length-append h.steps (step ∷ []) ∙ ap (λ n. n + 1) h.count;
      now_is = led-more (request ∷ []) (step ∷ []) first requests h.steps count
          ∙ ap (λ d. after_requests d (request ∷ []) (step ∷ [])) h.now_is ∙ leads.1;
      told_is = (answered-more first now told told requests request h.steps (step ∷ []) (written ++ old) line
          count h.now_is h.told_is adds h.course.answered).1;
      table = IsTable-noted tickets more records entry h.table (rw h.in_turn named.0) noted;
      in_turn = ap length noted ∙ length-append tickets (filter_map ticket_given_by (entry ∷ []))
          ∙ omega (arith, h.in_turn, named.1);
    }

-- the lines that a step adds
pub plain_line : (now : Running) (told : ℕ) (action : Action) (seen : Seen) (step : Visit)
    → AddsAnswer now told (Step action seen) (step ∷ [])
    (difference (shows seen step.entry) ++ line_of_text (record_text step.entry)) told
plain_line now told action seen step =
    (append-nil (difference (shows seen step.entry) ++ line_of_text (record_text step.entry)), refl)

pub explained_line : (now : Running) (told : ℕ) (action : Action) (seen : Seen) (step : Visit)
    → answers now told (Explain action seen ∷ []) (step ∷ [])
    ≡ difference (shows seen step.entry) ++ explanation_of_step step
explained_line now told action seen step =
    append-nil (difference (shows seen step.entry) ++ explanation_of_step step)

-- a session with one request more that is no step, and leads the device so
pub stepless : (caps : Caps) (capacity : ℕ) (requests : List Request) (records : List Record)
    (request : Request) (number : ℕ) (now new : Running) (tickets : List Ticket) (told told' : ℕ)
    (written old text line : List ℕ)
    → observed_in request ≡ None → AddsAnswer now told request [] line told'
    → (AreStepsOf now number (request ∷ []) [] × (after_requests now (request ∷ []) [] ≡ new))
    → new.state.work.setup.next_name ≡ now.state.work.setup.next_name → text ≡ old ++ line
    → IsSessionTo caps capacity requests records number now tickets told (written ++ old)
    → IsSessionTo caps capacity (requests ++ request ∷ []) records number new tickets told' (written ++ text)
stepless caps capacity requests records request number now new tickets told told' written old text line none
    adds leads named longer h =
    let first = running_at_first caps capacity in
    let nothing : observed_of (request ∷ []) ≡ [] = rw none refl in
    let asked : observed_of requests ≡ observed_of (requests ++ request ∷ []) =
    sym (observed-more requests (request ∷ []) ∙ ap (λ l. observed_of requests ++ l) nothing
    ∙ append-nil (observed_of requests)) in
    let same : actions_of requests ≡ actions_of (requests ++ request ∷ []) =
    ap (map (λ (o : Action × Seen). o.0)) asked in
    let count = course_count caps capacity requests h.steps (written ++ old) h.course in
    let whole : h.steps ++ [] ≡ h.steps = append-nil h.steps in
    let done = course_more caps capacity now told told' requests request h.steps [] number (written ++ old)
    line h.course h.count h.now_is h.told_is adds leads.0
    (rw whole (subst (λ actions. AreOf [] actions (records_of_visits h.steps)) same h.course.of_actions))
    (rw whole (subst (λ l. AreClosest l h.steps) asked h.course.closest)) in
    let text_is : (written ++ old) ++ line ≡ written ++ text =
    append_assoc written old line ∙ ap (λ l. written ++ l) (sym longer) in
    record {
      steps = h.steps;
      course =
          rw whole at (subst (λ text. IsCourse caps capacity (requests ++ request ∷ []) (h.steps ++ []) text)
          text_is done);
      entries = h.entries;
      count = h.count;
      now_is = rw whole at (led-more (request ∷ []) [] first requests h.steps count
          ∙ ap (λ d. after_requests d (request ∷ []) []) h.now_is ∙ leads.1);
      told_is = rw whole at (answered-more first now told told' requests request h.steps [] (written ++ old)
          line count h.now_is h.told_is adds h.course.answered).1;
      table = h.table;
      in_turn = h.in_turn ∙ sym named;
    }

-- one whose document was taken
pub taken : (caps : Caps) (capacity : ℕ) (requests : List Request) (records : List Record) (count : ℕ)
    (number : ℕ) (now : Running) (tickets : List Ticket) (told : ℕ) (written old text : List ℕ)
    → text ≡ old ++ line_of_text (ready_text count)
    → IsSessionTo caps capacity requests records number now tickets told (written ++ old)
    → IsSessionTo caps capacity (requests ++ Ready count ∷ []) records number now tickets
    told (written ++ text)
taken caps capacity requests records count number now tickets told written old text is h =
    stepless caps capacity requests records (Ready count) number now now tickets told told written old text
    (line_of_text (ready_text count)) refl (append-nil (line_of_text (ready_text count)), refl)
    (tt, refl) refl is h

-- the same of a session of the program, whose steps and tickets stay
stays : {S : Type 0} (was now : Session S) (request : Request) (old text line : List ℕ)
    → observed_in request ≡ None → AddsAnswer was.device was.told request [] line now.told
    → (AreStepsOf was.device was.number (request ∷ []) [] × (after_requests was.device (request ∷ []) [] ≡ now.device))
    → now.device.state.work.setup.next_name ≡ was.device.state.work.setup.next_name
    → now.number ≡ was.number → now.tickets.items ≡ was.tickets.items → text ≡ old ++ line
    → ComesBy was old now text request []
stays was now request old text line none adds leads named number tickets longer caps capacity requests records
    written h = rw (append-nil records, number, tickets)
    (stepless caps capacity requests records request was.number was.device now.device was.tickets.items was.told
    now.told written old text line none adds leads named longer h)

-- one with a line that asks nothing, with one that asks for the device, and with one that asks for fates
pub missed : {S : Type 0} (session : Session S) (why old text : List ℕ) → text ≡ old ++ line_of_text (refusal_line why)
    → ComesBy session old session text (Fault why) []
missed session why old text is =
    let line = line_of_text (refusal_line why) in
    stays session session (Fault why) old text line refl (append-nil line, refl) (tt, refl) refl refl refl is

pub shown : {S : Type 0} (session : Session S) (old text : List ℕ) → text ≡ old ++ shown_text session.device
    → ComesBy session old session text Show []
shown session old text is =
    let line = shown_text session.device in
    stays session session Show old text line refl (append-nil line, refl) (tt, refl) refl refl refl is

pub fates_told : {S : Type 0} (was now : Session S) (old text : List ℕ) → now.device ≡ was.device
    → now.number ≡ was.number → now.tickets.items ≡ was.tickets.items → now.told ≡ length was.device.state.work.fates
    → text ≡ old ++ new_fates_text (new_fates was.device was.told) → ComesBy was old now text Fates []
fates_told was now old text device number tickets told is =
    let line = new_fates_text (new_fates was.device was.told) in
    stays was now Fates old text line refl (append-nil line, sym told) (tt, sym device)
    (ap (λ (d : Running). d.state.work.setup.next_name) device) number tickets is

-- the history began anew
pub begun_anew : {S : Type 0} (was now : Session S) (past : PastFates) (old text : List ℕ)
    → now.device ≡ running_anew was.device past → now.number ≡ was.number → now.tickets.items ≡ was.tickets.items
    → now.told ≡ told_anew past was.told → text ≡ old ++ line_of_text anew_text
    → ComesBy was old now text (BeginAnew past) []
begun_anew was now past old text device number tickets told is =
    stays was now (BeginAnew past) old text (line_of_text anew_text) refl
    (append-nil (line_of_text anew_text), sym told) (tt, sym device)
    (ap (λ (d : Running). d.state.work.setup.next_name) device) number tickets is

-- a session that has come by nothing
pub new_session : (caps : Caps) (capacity : ℕ) (now : Running) (tickets : List Ticket)
    → IsAtFirst caps capacity now tickets → IsSessionTo caps capacity [] [] 0 now tickets 0 []
new_session caps capacity now tickets first =
    rw (first.device, first.none) (record {
      steps = [];
      course = record { of_actions = tt; led = tt; closest = tt; answered = refl };
      entries = refl;
      count = refl;
      now_is = refl;
      told_is = refl;
      table = λ name. refl;
      in_turn = refl;
    })
