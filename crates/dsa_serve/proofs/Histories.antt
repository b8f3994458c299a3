-- The steps of a dialogue together: one history, or several, each begun anew.
use Rattle.dsa_book.specs.declared.event.Event.TheVariants as event
use Rattle.dsa_book.specs.declared.fate.PastFates.TheVariants as ends
use Rattle.std.proofs.Common.{◌≡◌, ◌+◌, ℕ, true, false, Bool, List, [], ◌∷◌, ◌++◌, Some, length}
use Rattle.std.proofs.Common.{refl, ap, sym, ◌∙◌, arith, subst, append_assoc, append-nil, length-append}
use Rattle.std.specs.List.{list_all, list_any}
use Rattle.std.proofs.lemmas.List.{Folds.{list_all-append}, Elements.{filter-append, filter_map-append}}
use Rattle.dsa_regs.specs.{declared.Caps.{Caps}}
use Rattle.dsa_book.specs.declared.{event.{Event.{Event}, Step.{Step}}, answer.Reply.{Reply}}
use Rattle.dsa_book.specs.declared.fate.{FateRow.{FateRow}, PastFates.{PastFates}}
use Rattle.dsa_book.specs.{State.{State}, Machine.{next, full_reply, is_full_reply, is_legal, is_run}}
use Rattle.dsa_book.specs.{Machine.{is_stored, replay, stored_steps}}
use Rattle.dsa_book.proofs.EqualReplies.{equal-replies}
use Rattle.dsa_laws.{specs.Forgotten.{with_past_fates}, proofs.Changes.{next_keeps}}
use Rattle.dsa_laws.proofs.Forgotten.{past-emptied, replay-past}
use Rattle.dsa_device.specs.Running.{Running, running_at_first, running_anew, running_after, IsReplay}
use Rattle.dsa_device.proofs.Steps.{answered_by_cases}
use Rattle.dsa_scenario.specs.declared.run.Record.{Record, TheVariants.{Stepped, Refused}}
use Rattle.dsa_scenario.specs.{Document.{IsOpenable}, Run.{step_of, steps_of_records, Leads}}
use Rattle.dsa_scenario.specs.Steps.{standing, Visit, visit, visits}
use Rattle.dsa_scenario.proofs.{Records.{Goes, goes_nowhere, goes_on}, Walks.{stands}}
use Rattle.dsa_serve.specs.Requests as ask
use Rattle.dsa_serve.specs.Requests.{Request, Explain, Show, Fates, BeginAnew, Fault, Ready, begins_anew}
use Rattle.dsa_serve.specs.Answers.{after_requests, records_of_visits, AreStepsOf, IsVisitFrom}

-- ---- one history

-- a device that has gone on by these records, and the steps of more requests that begin no history anew
module _ (caps : Caps) (capacity : ℕ) where
  abbrev first : Running
  first = running_at_first caps capacity

  -- the steps are those of the run, which leads on
  abbrev AreOfOneRun : Running → List Record → List Visit → Type 0
  AreOfOneRun new before steps =
      (steps ≡ visits caps capacity before (records_of_visits steps))
      × Goes first new (before ++ records_of_visits steps)

  -- a step, and those behind it
  step_and_more : (now new : Running) (before : List Record) (v : Visit) (steps : List Visit)
      → Goes first now before
      → IsVisitFrom now (length before) v
      → (Goes first v.after (before ++ v.entry ∷ []) → AreOfOneRun new (before ++ v.entry ∷ []) steps)
      → AreOfOneRun new before (v ∷ steps)
  step_and_more now new before v steps goes is more =
      let on : Goes first v.after (before ++ v.entry ∷ []) =
      goes_on first now v.after before v.entry goes is.leads in
      let rest = more on in
      let stood : v.before ≡ standing caps capacity before =
      is.before ∙ sym (stands caps capacity before now goes) in
      let led : v.after ≡ standing caps capacity (before ++ v.entry ∷ []) =
      sym (stands caps capacity (before ++ v.entry ∷ []) v.after on) in
      let here : v ≡ visit (length before) (standing caps capacity before) v.entry
      (standing caps capacity (before ++ v.entry ∷ [])) =
      ap (λ n. visit n v.before v.entry v.after) is.number_is
      ∙ ap (λ b. visit (length before) b v.entry v.after) stood
      ∙ ap (λ a. visit (length before) (standing caps capacity before) v.entry a) led in (
        ap (λ w. w ∷ steps) here
            ∙ ap (λ l. visit (length before) (standing caps capacity before) v.entry
            (standing caps capacity (before ++ v.entry ∷ [])) ∷ l) rest.0,
        subst (λ rs. Goes first new rs) (append_assoc before (v.entry ∷ []) (records_of_visits steps)) rest.1,
      )

  one_history : (now : Running) (before : List Record) (requests : List Request) (steps : List Visit)
      → Goes first now before → list_any begins_anew requests ≡ false
      → AreStepsOf now (length before) requests steps
      → AreOfOneRun (after_requests now requests steps) before steps
  one_history now before [] [] goes none h =
      (refl, subst (λ rs. Goes first now rs) (sym (append-nil before)) goes)
  one_history now before [] (v ∷ steps) goes none h = absurd h
  one_history now before (Show ∷ requests) steps goes none h =
      one_history now before requests steps goes none h
  one_history now before (Fates ∷ requests) steps goes none h =
      one_history now before requests steps goes none h
  one_history now before (Fault why ∷ requests) steps goes none h =
      one_history now before requests steps goes none h
  one_history now before (Ready count ∷ requests) steps goes none h =
      one_history now before requests steps goes none h
  one_history now before (BeginAnew past ∷ requests) steps goes none h = absurd cc
  one_history now before (ask.Step action seen ∷ requests) [] goes none h = absurd h
  one_history now before (Explain action seen ∷ requests) [] goes none h = absurd h
  one_history now before (ask.Step action seen ∷ requests) (v ∷ steps) goes none h =
      step_and_more now (after_requests v.after requests steps) before v steps goes h.0
      (λ on. one_history v.after (before ++ v.entry ∷ []) requests steps on none
      (subst (λ n. AreStepsOf v.after n requests steps) (sym (length-append before (v.entry ∷ []))) h.1))
  one_history now before (Explain action seen ∷ requests) (v ∷ steps) goes none h =
      step_and_more now (after_requests v.after requests steps) before v steps goes h.0
      (λ on. one_history v.after (before ++ v.entry ∷ []) requests steps on none
      (subst (λ n. AreStepsOf v.after n requests steps) (sym (length-append before (v.entry ∷ []))) h.1))

-- a new device is one of no steps
pub replay_first : (caps : Caps) (capacity : ℕ) → IsOpenable caps capacity
    → IsReplay (running_at_first caps capacity)
replay_first caps capacity opening = record {
  caps = opening.good;
  bounded = opening.small;
  within = omega arith;
  legal = refl;
  replayed = refl;
}

-- ---- many histories

-- the steps that were stored of these records
abbrev pub stored_of : List Record → List Step
stored_of records = stored_steps (steps_of_records records)

-- they have led to the state, but for the fates that were forgotten
record HasCome (caps : Caps) (records : List Record) (now : Running) : Type 0 where
  forgotten : List FateRow
  all_stored : list_all (λ step. is_stored step.reply) (stored_of records) ≡ true
  replayed : replay caps (stored_of records) ≡ Some (with_past_fates forgotten now.state)

-- a record more adds its step, where that is stored
stored_push : (records : List Record) (r : Record)
    → stored_of (records ++ r ∷ []) ≡ stored_of records ++ stored_of (r ∷ [])
stored_push records r =
    ap stored_steps (filter_map-append step_of records (r ∷ []))
    ∙ filter-append (λ (step : Step). is_stored step.reply) (steps_of_records records)
    (steps_of_records (r ∷ []))

-- Full is not stored
full-unstored : (e : Event) (r : Reply) → is_full_reply e r ≡ true → is_stored r ≡ false
full-unstored e r h = ap is_stored (equal-replies r (full_reply e) h) ∙ unstored e
  where
    unstored : (e : Event) → is_stored (full_reply e) ≡ false
    unstored event.Poll = refl
    unstored _ = refl

come_on : (caps : Caps) (records : List Record) (now after : Running) (r : Record) → HasCome caps records now
    → Leads now r after → HasCome caps (records ++ r ∷ []) after
come_on caps records now after (Refused word) h same =
    let whole : stored_of (records ++ Refused word ∷ []) ≡ stored_of records =
    stored_push records (Refused word) ∙ append-nil (stored_of records) in
    record {
      forgotten = h.forgotten;
      all_stored = rw whole h.all_stored;
      replayed = rw (whole, same) h.replayed;
    }
come_on caps records now after (Stepped step) h leads =
    answered_by_cases (HasCome caps (records ++ Stepped step ∷ [])) now after step.event step.reply leads
    (λ room full. unstored now.state (full-unstored step.event step.reply full) refl)
    (λ s room n. at (is_stored step.reply) refl s n)
  where
    all : stored_of (records ++ Stepped step ∷ []) ≡ stored_of records ++ stored_of (Stepped step ∷ [])
    all = stored_push records (Stepped step)

    unstored : (s : State) → is_stored step.reply ≡ false → s ≡ now.state
        → HasCome caps (records ++ Stepped step ∷ []) (record now { state = s })
    unstored s lost same =
        let none : stored_of (Stepped step ∷ []) ≡ [] = rw lost refl in
        let whole : stored_of (records ++ Stepped step ∷ []) ≡ stored_of records =
        all ∙ ap (λ l. stored_of records ++ l) none ∙ append-nil (stored_of records) in
        record {
          forgotten = h.forgotten;
          all_stored = rw whole h.all_stored;
          replayed = rw (whole, same) h.replayed;
        }

    at : (b : Bool) → is_stored step.reply ≡ b → (s : State) → next now.state step.event step.reply ≡ Some s
        → HasCome caps (records ++ Stepped step ∷ []) (running_after now step.event step.reply s)
    at false lost s n =
        let it = unstored s lost (next_keeps now.state s step.event step.reply n lost) in
        record { forgotten = it.forgotten; all_stored = it.all_stored; replayed = it.replayed }
    at true kept s n =
        let one : stored_of (Stepped step ∷ []) ≡ step ∷ [] = rw kept refl in
        let longer : stored_of (records ++ Stepped step ∷ []) ≡ stored_of records ++ step ∷ [] =
        all ∙ ap (λ l. stored_of records ++ l) one in
        record {
          forgotten = h.forgotten;
          all_stored = rw (longer, list_all-append, h.all_stored, kept) refl;
          replayed = rw longer
              (replay-past caps (stored_of records) h.forgotten now.state s step h.replayed n);
        }

come_anew : (caps : Caps) (records : List Record) (now : Running) (past : PastFates)
    → HasCome caps records now
    → HasCome caps records (running_anew now past)
come_anew caps records now ends.Kept h =
    record { forgotten = h.forgotten; all_stored = h.all_stored; replayed = h.replayed }
come_anew caps records now ends.Forgotten h = record {
  forgotten = h.forgotten ++ now.state.work.fates;
  all_stored = h.all_stored;
  replayed = h.replayed ∙ ap Some (sym (past-emptied h.forgotten now.state));
}

many_histories : (caps : Caps) (now : Running) (number : ℕ) (before : List Record) (requests : List Request)
    (steps : List Visit) → HasCome caps before now → AreStepsOf now number requests steps
    → HasCome caps (before ++ records_of_visits steps) (after_requests now requests steps)
many_histories caps now number before [] [] come h = rw (append-nil before) come
many_histories caps now number before [] (v ∷ steps) come h = absurd h
many_histories caps now number before (Show ∷ requests) steps come h =
    many_histories caps now number before requests steps come h
many_histories caps now number before (Fates ∷ requests) steps come h =
    many_histories caps now number before requests steps come h
many_histories caps now number before (Fault why ∷ requests) steps come h =
    many_histories caps now number before requests steps come h
many_histories caps now number before (Ready count ∷ requests) steps come h =
    many_histories caps now number before requests steps come h
many_histories caps now number before (BeginAnew past ∷ requests) steps come h =
    many_histories caps (running_anew now past) number before requests steps
    (come_anew caps before now past come) h
many_histories caps now number before (ask.Step action seen ∷ requests) [] come h = absurd h
many_histories caps now number before (Explain action seen ∷ requests) [] come h = absurd h
many_histories caps now number before (ask.Step action seen ∷ requests) (v ∷ steps) come h =
    subst (λ rs. HasCome caps rs (after_requests v.after requests steps))
    (append_assoc before (v.entry ∷ []) (records_of_visits steps))
    (many_histories caps v.after (number + 1) (before ++ v.entry ∷ []) requests steps
    (come_on caps before now v.after v.entry come h.0.leads) h.1)
many_histories caps now number before (Explain action seen ∷ requests) (v ∷ steps) come h =
    subst (λ rs. HasCome caps rs (after_requests v.after requests steps))
    (append_assoc before (v.entry ∷ []) (records_of_visits steps))
    (many_histories caps v.after (number + 1) (before ++ v.entry ∷ []) requests steps
    (come_on caps before now v.after v.entry come h.0.leads) h.1)

pub all_histories : (caps : Caps) (capacity : ℕ) (requests : List Request) (steps : List Visit)
    → AreStepsOf (running_at_first caps capacity) 0 requests steps
    → (forgotten : List FateRow) × (is_legal caps (stored_of (records_of_visits steps)) ≡ true)
    × (replay caps (stored_of (records_of_visits steps))
    ≡ Some (with_past_fates forgotten (after_requests (running_at_first caps capacity) requests steps).state))
all_histories caps capacity requests steps h =
    let it = many_histories caps (running_at_first caps capacity) 0 [] requests steps
    (record { forgotten = []; all_stored = refl; replayed = refl }) h in
    (it.forgotten, rw (it.all_stored, it.replayed) refl, it.replayed)

pub all_of_one : (caps : Caps) (capacity : ℕ) (requests : List Request) (steps : List Visit)
    → IsOpenable caps capacity → list_any begins_anew requests ≡ false
    → AreStepsOf (running_at_first caps capacity) 0 requests steps
    → (steps ≡ visits caps capacity [] (records_of_visits steps))
    × (is_run caps capacity (steps_of_records (records_of_visits steps)) ≡ true)
    × (replay caps (stored_of (records_of_visits steps))
    ≡ Some (after_requests (running_at_first caps capacity) requests steps).state)
all_of_one caps capacity requests steps opening none h =
    let it = one_history caps capacity (running_at_first caps capacity) [] requests steps
    (goes_nowhere caps capacity (replay_first caps capacity opening)) none h in
    let run = it.1.run in
    (it.0, rw run.added run.allowed, rw run.added (rw run.history at run.replayed))
