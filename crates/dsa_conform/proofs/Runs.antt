-- Runs that take from the same queues stand alike.
use Rattle.dsa_book.specs.declared.answer.Reply.TheVariants as reply
use Rattle.dsa_book.specs.declared.event.Event.TheVariants as event
use Rattle.std.proofs.Common.{◌≡◌, ℕ, ◌+◌, ◌==◌, Bool, true, false, cond, List, [], ◌∷◌, ◌++◌, length, map, filter_map}
use Rattle.std.proofs.Common.{Option, Some, None, option_map, Result, Ok, Err, refl, sym, ap, subst, ◌∙◌}
use Rattle.std.proofs.Common.{append_assoc, append-nil, add-zero, ◌<◌, take, get_or}
use Rattle.std.proofs.lemmas.{Bool.{and_parts}, List.{length_push, take_more}}
use Rattle.std.proofs.lemmas.List.Elements.{filter_map-append}
use Rattle.std.specs.Prelude.{option_and_then, is_some}
use Rattle.dsa_base.specs.Rows.{when}
use Rattle.dsa_base.proofs.Tables.{not-both}
use Rattle.dsa_regs.specs.declared.{Caps.{Caps}, Fault.{Fault}}
use Rattle.dsa_book.specs.declared.answer.{Ticket.{Ticket}, Reply.{Reply}, SubmitAnswer.TheVariants.{Accepted}}
use Rattle.dsa_book.specs.declared.answer.{FetchAnswer.TheVariants.{Fetched}, DispatchAnswer.TheVariants.{Taken}}
use Rattle.dsa_book.specs.declared.answer.StartAnswer.TheVariants.{Started}
use Rattle.dsa_book.specs.declared.event.{Event.{Event}, Step.{Step}, Kind.TheVariants.{Enqcmd, Movdir64b}}
use Rattle.dsa_book.specs.{State.{State}, Choice.{Choice, from_queue, choice_of}}
use Rattle.dsa_book.specs.Machine.{next, is_stored, history_after, full_reply, is_full_reply, stored_steps}
use Rattle.dsa_book.specs.Machine.{may_follow, is_run_after}
use Rattle.dsa_book.proofs.EqualReplies.{equal-replies}
use Rattle.dsa_answers.specs.Alike.{AreStatesAlike, AskAlike, TakeAlike, HeldAsGiven}
use Rattle.dsa_answers.specs.Alike.{without_cell, given_after, ticket_named}
use Rattle.dsa_answers.proofs.{Alike.{alike-next}, Given.{given-next, given-opening, name-of_named, ticket-of_named}}
use Rattle.dsa_device.specs.Running.{Running, running_at_first, running_after, after_answer, IsReplay}
use Rattle.dsa_device.proofs.{Known.{well_formed}, Steps.{answered_by_cases, answered-replay, grows}}
use Rattle.dsa_scenario.specs.declared.actions.BadWord.{BadWord}
use Rattle.dsa_scenario.specs.declared.actions.Action.{Action, TheVariants.{Ask, Finish, Refuse}}
use Rattle.dsa_scenario.specs.declared.run.Record.{Record, TheVariants.{Stepped, Refused}}
use Rattle.dsa_scenario.specs.{Lines.{reply_text}, Steps.{standing}}
use Rattle.dsa_scenario.specs.Run.{ticket_given_by, given_by_reply, event_of, answered_by, AreOf, Leads}
use Rattle.dsa_scenario.specs.Run.{steps_of_records}
use Rattle.dsa_scenario.proofs.{Records.{Goes, goes_nowhere, goes_on}, Walks.{stands}}
use Rattle.dsa_conform.specs.Allowed.{AreSeenAlike}
use Rattle.dsa_conform.specs.Run.{IsShownRun}
use Rattle.dsa_conform.specs.Seen.{Seen, nameless_reply, zf_of_step, AreShown}
use Rattle.dsa_conform.specs.Ways.{AreDevicesAlike, AreNamedEnds, IsNamedEnd, IsStepOfRun, RunFrom, queue_of_reply}
use Rattle.dsa_conform.specs.Ways.{queue_of_record, queues_taken}
use Rattle.dsa_conform.proofs.SeenAlike.{stepped, alike}

-- ---- a run, record by record

-- the last step, and the run before it
pub record EndsWith (before : List Record) (d : Running) (done : List (Action × Seen)) (here : Action × Seen)
    (records : List Record) (after : Running) : Type 0 where
  pub first : List Record
  pub last : Record
  pub at : Running
  pub is : records ≡ first ++ last ∷ []
  pub run : RunFrom before d done first at
  pub step : IsStepOfRun (before ++ first) at here last after

pub ends_with : (before : List Record) (d : Running) (done : List (Action × Seen)) (here : Action × Seen)
    (records : List Record) (after : Running) → RunFrom before d (done ++ here ∷ []) records after
    → EndsWith before d done here records after
ends_with before d [] here [] after h = absurd h
ends_with before d [] here (r ∷ []) after h = record {
  first = [];
  last = r;
  at = d;
  is = refl;
  run = refl;
  step = subst (λ b. IsStepOfRun b d here r after) (sym (append-nil before))
      (subst (λ e. IsStepOfRun before d here r e) h.2 h.1);
}
ends_with before d [] here (r ∷ q ∷ rs) after h = absurd h.2
ends_with before d (o ∷ os) here [] after h = absurd h
ends_with before d (o ∷ os) here (r ∷ rs) after h =
    let u = ends_with (before ++ r ∷ []) h.0 os here rs after h.2 in record {
      first = r ∷ u.first;
      last = u.last;
      at = u.at;
      is = ap (λ l. r ∷ l) u.is;
      run = (h.0, h.1, u.run);
      step = subst (λ b. IsStepOfRun b u.at here u.last after) (append_assoc before (r ∷ []) u.first) u.step;
    }

-- one step more
pub run_push : (before : List Record) (d at after : Running) (done : List (Action × Seen)) (here : Action × Seen)
    (rs : List Record) (r : Record) → RunFrom before d done rs at → IsStepOfRun (before ++ rs) at here r after
    → RunFrom before d (done ++ here ∷ []) (rs ++ r ∷ []) after
run_push before d at after [] here [] r h step = (
  after,
  subst (λ b. IsStepOfRun b d here r after) (append-nil before)
      (subst (λ e. IsStepOfRun (before ++ []) e here r after) (sym h) step),
  refl,
)
run_push before d at after [] here (q ∷ rs) r h step = absurd h
run_push before d at after (o ∷ os) here [] r h step = absurd h
run_push before d at after (o ∷ os) here (q ∷ rs) r h step = (
  h.0,
  h.1,
  run_push (before ++ q ∷ []) h.0 at after os here rs r h.2
      (subst (λ b. IsStepOfRun b at here r after) (sym (append_assoc before (q ∷ []) rs)) step),
)

-- ---- the machine's runs

-- what may follow leads somewhere
leads-somewhere : (full fits : Bool) (o : Option State) (f : State → Running) (d : Running)
    → cond full fits (is_some o) ≡ true → (m : Running) × (cond full (when fits d) (option_map f o) ≡ Some m)
leads-somewhere true true o f d h = (d, refl)
leads-somewhere true false o f d h = absurd cc
leads-somewhere false fits None f d h = absurd cc
leads-somewhere false fits (Some s) f d h = (f s, refl)

follows : (d : Running) (x : Step) → IsReplay d → may_follow d.caps d.capacity d.history x ≡ true
    → (m : Running) × (after_answer d x.event x.reply ≡ Some m)
follows d x i h =
    let at : cond (length d.history == d.capacity) (is_full_reply x.event x.reply)
    (is_some (next d.state x.event x.reply)) ≡ true =
    subst (λ (o : Option State). cond (length d.history == d.capacity) (is_full_reply x.event x.reply)
    (is_some (option_and_then (λ s. next s x.event x.reply) o)) ≡ true) i.replayed h in
    leads-somewhere (length d.history == d.capacity) (is_full_reply x.event x.reply) (next d.state x.event x.reply)
    (running_after d x.event x.reply) d at

-- the history after a step, as the machine's runs have it
stored-one : (history : List Step) (x : Step) → history ++ stored_steps (x ∷ []) ≡ history_after history x
stored-one history x = at (is_stored x.reply) refl
  where
    at : (b : Bool) → is_stored x.reply ≡ b → history ++ stored_steps (x ∷ []) ≡ history_after history x
    at true is = rw is refl
    at false is = rw (is, append-nil) refl

pub run_from : (first : Running) (before : List Record) (d : Running) (observed : List (Action × Seen))
    (rs : List Record) → Goes first d before → AreOf before (map (λ o. o.0) observed) rs
    → AreShown (map (λ o. o.1) observed) rs
    → is_run_after d.caps d.capacity d.history (steps_of_records rs) ≡ true
    → (after : Running) × RunFrom before d observed rs after × Goes first after (before ++ rs)
run_from first before d [] [] goes of shown run = (d, refl, subst (λ b. Goes first d b) (sym (append-nil before)) goes)
run_from first before d [] (r ∷ rs) goes of shown run = absurd of
run_from first before d (o ∷ os) [] goes of shown run = absurd of
run_from first before d (o ∷ os) (Stepped x ∷ rs) goes of shown run =
    let both = and_parts (may_follow d.caps d.capacity d.history x)
    (is_run_after d.caps d.capacity (d.history ++ stored_steps (x ∷ [])) (steps_of_records rs)) run in
    let m = follows d x goes.replay both.0 in
    let g = grows d m.0 x.event x.reply m.1 in
    let history : d.history ++ stored_steps (x ∷ []) ≡ m.0.history = stored-one d.history x ∙ sym g.history in
    let rest : is_run_after m.0.caps m.0.capacity m.0.history (steps_of_records rs) ≡ true =
    rw (g.caps, g.capacity, ← history) both.1 in
    let on = run_from first (before ++ Stepped x ∷ []) m.0 os rs
    (goes_on first d m.0 before (Stepped x) goes m.1) of.1 shown.1 rest in (
      on.0,
      (m.0, record { answers = of.0; leads = m.1; shown = shown.0 }, on.1),
      subst (λ b. Goes first on.0 b) (append_assoc before (Stepped x ∷ []) rs) on.2,
    )
run_from first before d (o ∷ os) (Refused fault ∷ rs) goes of shown run =
    let on = run_from first (before ++ Refused fault ∷ []) d os rs
    (goes_on first d d before (Refused fault) goes refl) of.1 shown.1 run in (
      on.0,
      (d, record { answers = of.0; leads = refl; shown = shown.0 }, on.1),
      subst (λ b. Goes first on.0 b) (append_assoc before (Refused fault ∷ []) rs) on.2,
    )

pub run_of : (caps : Caps) (capacity : ℕ) (observed : List (Action × Seen)) (records : List Record)
    → IsReplay (running_at_first caps capacity) → IsShownRun caps capacity observed records
    → RunFrom [] (running_at_first caps capacity) observed records (standing caps capacity records)
run_of caps capacity observed records i h =
    let r = run_from (running_at_first caps capacity) [] (running_at_first caps capacity) observed records
    (goes_nowhere caps capacity i) h.of_actions h.shown h.run in
    subst (λ e. RunFrom [] (running_at_first caps capacity) observed records e)
    (sym (stands caps capacity records r.0 r.2)) r.1

-- ---- what holds along a run

pub record IsGood (before : List Record) (d : Running) : Type 0 where
  pub replay : IsReplay d
  pub given : HeldAsGiven (filter_map ticket_given_by before) d.state

given-by : (gs : List Ticket) (r : Reply)
    → given_after gs r ≡ gs ++ filter_map (λ (x : Option Ticket). x) (given_by_reply r ∷ [])
given-by gs (reply.Submit (Accepted t)) = refl
given-by gs (reply.Fetch (Fetched t)) = refl
given-by gs _ = sym (append-nil gs)

full-gives : (gs : List Ticket) (e : Event) → given_after gs (full_reply e) ≡ gs
full-gives gs event.Poll = refl
full-gives gs _ = refl

given-more : (before : List Record) (x : Step)
    → given_after (filter_map ticket_given_by before) x.reply ≡ filter_map ticket_given_by (before ++ Stepped x ∷ [])
given-more before x =
    given-by (filter_map ticket_given_by before) x.reply
    ∙ sym (filter_map-append ticket_given_by before (Stepped x ∷ []))

pub good_step : (before : List Record) (d m : Running) (r : Record) → IsGood before d → Leads d r m
    → IsGood (before ++ r ∷ []) m
good_step before d m (Stepped x) good leads = record {
  replay = answered-replay d m x.event x.reply good.replay leads;
  given = subst (λ gs. HeldAsGiven gs m.state) (given-more before x)
      (answered_by_cases (λ t. HeldAsGiven (given_after (filter_map ticket_given_by before) x.reply) t.state) d m
      x.event x.reply leads
      (λ room full. subst (λ gs. HeldAsGiven gs d.state)
      (sym (ap (given_after (filter_map ticket_given_by before)) (equal-replies x.reply (full_reply x.event) full)
      ∙ full-gives (filter_map ticket_given_by before) x.event)) good.given)
      (λ s room n. given-next (filter_map ticket_given_by before) d.state s x.event x.reply good.given n));
}
good_step before d m (Refused fault) good same =
    let given : filter_map ticket_given_by before ≡ filter_map ticket_given_by (before ++ Refused fault ∷ []) =
    sym (append-nil (filter_map ticket_given_by before))
    ∙ sym (filter_map-append ticket_given_by before (Refused fault ∷ [])) in
    record {
      replay = subst IsReplay (sym same) good.replay;
      given = subst (λ gs. HeldAsGiven gs m.state) given
          (subst (λ (t : Running). HeldAsGiven (filter_map ticket_given_by before) t.state) (sym same) good.given);
    }

pub good_run : (before : List Record) (d : Running) (observed : List (Action × Seen)) (rs : List Record)
    (after : Running)
    → IsGood before d → RunFrom before d observed rs after → IsGood (before ++ rs) after
good_run before d [] [] after good h =
    subst (λ b. IsGood b after) (sym (append-nil before)) (subst (IsGood before) h good)
good_run before d [] (r ∷ rs) after good h = absurd h
good_run before d (o ∷ os) [] after good h = absurd h
good_run before d (o ∷ os) (r ∷ rs) after good h =
    subst (λ b. IsGood b after) (append_assoc before (r ∷ []) rs)
    (good_run (before ++ r ∷ []) h.0 os rs after (good_step before d h.0 r good h.1.leads) h.2)

pub good_at_first : (caps : Caps) (capacity : ℕ) → IsReplay (running_at_first caps capacity)
    → IsGood [] (running_at_first caps capacity)
good_at_first caps capacity i = record { replay = i; given = given-opening caps }

-- ---- replies that differ in cells alone

-- what is the same where the cell is left out of a ticket is so for each reply
alone : {T : Type 0} (of : Reply → T)
    → ((t : Ticket) → of (reply.Submit (Accepted t)) ≡ of (without_cell (reply.Submit (Accepted t))))
    → ((t : Ticket) (q : ℕ) → of (reply.Dispatch (Taken t q)) ≡ of (without_cell (reply.Dispatch (Taken t q))))
    → ((t : Ticket) → of (reply.Fetch (Fetched t)) ≡ of (without_cell (reply.Fetch (Fetched t))))
    → ((t : Ticket) → of (reply.Start (Started t)) ≡ of (without_cell (reply.Start (Started t))))
    → (r : Reply) → of r ≡ of (without_cell r)
alone of accepted taken fetched started (reply.Submit (Accepted t)) = accepted t
alone of accepted taken fetched started (reply.Dispatch (Taken t q)) = taken t q
alone of accepted taken fetched started (reply.Fetch (Fetched t)) = fetched t
alone of accepted taken fetched started (reply.Start (Started t)) = started t
alone of accepted taken fetched started _ = refl

text-alone : (r : Reply) → reply_text r ≡ reply_text (without_cell r)
text-alone = alone reply_text (λ t. refl) (λ t q. refl) (λ t. refl) (λ t. refl)

nameless-alone : (r : Reply) → nameless_reply r ≡ nameless_reply (without_cell r)
nameless-alone = alone nameless_reply (λ t. refl) (λ t q. refl) (λ t. refl) (λ t. refl)

flag-alone : (e : Event) (r : Reply) → zf_of_step e r ≡ zf_of_step e (without_cell r)
flag-alone (event.Submit client queue portal (Enqcmd pasid) desc) =
    alone (zf_of_step (event.Submit client queue portal (Enqcmd pasid) desc)) (λ t. refl) (λ t q. refl) (λ t. refl)
    (λ t. refl)
flag-alone (event.Submit client queue portal Movdir64b desc) =
    alone (zf_of_step (event.Submit client queue portal Movdir64b desc)) (λ t. refl) (λ t q. refl) (λ t. refl)
    (λ t. refl)
flag-alone _ = λ r. refl

stored-alone : (r : Reply) → is_stored r ≡ is_stored (without_cell r)
stored-alone = alone is_stored (λ t. refl) (λ t q. refl) (λ t. refl) (λ t. refl)

queue-alone : (r : Reply) → queue_of_reply r ≡ queue_of_reply (without_cell r)
queue-alone = alone queue_of_reply (λ t. refl) (λ t q. refl) (λ t. refl) (λ t. refl)

number_in : Choice → ℕ
number_in (from_queue q) = q
number_in _ = 0

-- a queue that is chosen is told
pub chosen : (r : Reply) (q : ℕ) → choice_of r ≡ from_queue q → queue_of_reply r ≡ Some q
unfolding number_in
chosen (reply.Submit (Accepted t)) q h = absurd cc
chosen (reply.Dispatch (Taken t p)) q h = ap (λ c. Some (number_in c)) h
chosen (reply.Fetch (Fetched t)) q h = absurd cc
chosen _ q h = absurd cc

-- questions that are alike are answered Full alike, and have the same flags
full-same : (s t : State) (e f : Event) → AskAlike s t e f → full_reply e ≡ full_reply f
full-same s t (event.Finish e a o) (event.Finish f b p) ask = refl
full-same s t (event.Finish e a o) _ ask = absurd cc
full-same s t e f ask = ap full_reply ask

flag-same : (s t : State) (e f : Event) (r : Reply) → AskAlike s t e f → zf_of_step e r ≡ zf_of_step f r
flag-same s t (event.Finish e a o) (event.Finish f b p) r ask = refl
flag-same s t (event.Finish e a o) _ r ask = absurd cc
flag-same s t e f r ask = ap (λ x. zf_of_step x r) ask

seen_same : (s t : State) (e f : Event) (r q : Reply) → AskAlike s t e f → without_cell r ≡ without_cell q
    → AreSeenAlike (stepped e r) (stepped f q)
seen_same s t e f r q ask same =
    alike (stepped e r) (stepped f q)
    (text-alone r ∙ ap reply_text same ∙ sym (text-alone q))
    (nameless-alone r ∙ ap nameless_reply same ∙ sym (nameless-alone q))
    (flag-alone e r ∙ ap (zf_of_step e) same ∙ sym (flag-alone e q) ∙ flag-same s t e f q ask)

-- ---- actions that a document can ask

event_in : Event → Result Event BadWord → Event
event_in d (Ok e) = e
event_in d (Err fault) = d

-- the same event of no ticket
ask_same : (s t : State) (e : Event) → IsNamedEnd (Ask e) → AskAlike s t e e
ask_same s t (event.Finish e a o) named = absurd named
ask_same s t _ named = refl

ask_alike : (b c : List Record) (s t : State) (a : Action) (e f : Event) → IsNamedEnd a
    → HeldAsGiven (filter_map ticket_given_by b) s → HeldAsGiven (filter_map ticket_given_by c) t
    → Ok e ≡ event_of b a → Ok f ≡ event_of c a → AskAlike s t e f
unfolding event_in
ask_alike b c s t (Ask x) e f named h k first second =
    let p : x ≡ e = sym (ap (event_in e) first) in
    let q : x ≡ f = sym (ap (event_in f) second) in
    subst (λ y. AskAlike s t e y) q (subst (λ y. AskAlike s t y x) p (ask_same s t x named))
ask_alike b c s t (Finish engine name outcome) e f named h k first second =
    let gs = filter_map ticket_given_by b in
    let hs = filter_map ticket_given_by c in
    let p : event.Finish engine (ticket_named gs name) outcome ≡ e = sym (ap (event_in e) first) in
    let q : event.Finish engine (ticket_named hs name) outcome ≡ f = sym (ap (event_in f) second) in
    let both : AskAlike s t (event.Finish engine (ticket_named gs name) outcome)
    (event.Finish engine (ticket_named hs name) outcome) = (
      refl,
      refl,
      name-of_named gs name ∙ sym (name-of_named hs name),
      ticket-of_named gs s name h,
      ticket-of_named hs t name k,
    ) in
    subst (λ y. AskAlike s t e y) q
    (subst (λ y. AskAlike s t y (event.Finish engine (ticket_named hs name) outcome)) p both)
ask_alike b c s t (Refuse fault) e f named h k first second = absurd cc

fault_in : BadWord → Result Event BadWord → BadWord
fault_in d (Ok e) = d
fault_in d (Err fault) = fault

-- ---- one step of two devices that are alike

-- after it they are alike, and what they answered looks alike
pub record StayAlike (m n : Running) (r q : Record) : Type 0 where
  pub devices : AreDevicesAlike m n
  pub seen : AreSeenAlike r q
  pub queues : queue_of_record r ≡ queue_of_record q

length-after : (h : List Step) (x : Step) → length (history_after h x) ≡ length h + cond (is_stored x.reply) 1 0
length-after h x = at (is_stored x.reply) refl
  where
    at : (b : Bool) → is_stored x.reply ≡ b → length (history_after h x) ≡ length h + cond (is_stored x.reply) 1 0
    at true is = rw is (length_push h x)
    at false is = rw (is, add-zero) refl

-- with replies that differ in cells alone, and states that are alike then
grown : (d e m n : Running) (x y : Step) → AreDevicesAlike d e → after_answer d x.event x.reply ≡ Some m
    → after_answer e y.event y.reply ≡ Some n → without_cell x.reply ≡ without_cell y.reply
    → AreStatesAlike m.state n.state → AreDevicesAlike m n
grown d e m n x y alike h k same states =
    let g = grows d m x.event x.reply h in
    let f = grows e n y.event y.reply k in
    let stored : is_stored x.reply ≡ is_stored y.reply =
    stored-alone x.reply ∙ ap is_stored same ∙ sym (stored-alone y.reply) in
    record {
      caps = g.caps ∙ alike.caps ∙ sym f.caps;
      capacity = g.capacity ∙ alike.capacity ∙ sym f.capacity;
      count = ap length g.history ∙ length-after d.history (record { event = x.event; reply = x.reply })
          ∙ ap (λ k. k + cond (is_stored x.reply) 1 0) alike.count
          ∙ ap (λ b. length e.history + cond b 1 0) stored
          ∙ sym (length-after e.history (record { event = y.event; reply = y.reply })) ∙ ap length (sym f.history);
      states = states;
    }

-- what both replies come to
pub record Agree (m n : Running) (r q : Reply) : Type 0 where
  pub replies : without_cell r ≡ without_cell q
  pub states : AreStatesAlike m.state n.state

agree : (d e m n : Running) (x y : Step) → IsReplay d → IsReplay e → AreDevicesAlike d e
    → AskAlike d.state e.state x.event y.event → TakeAlike x.reply y.reply
    → after_answer d x.event x.reply ≡ Some m → after_answer e y.event y.reply ≡ Some n
    → Agree m n x.reply y.reply
agree d e m n x y i j alike ask take h k =
    let rooms : (length d.history == d.capacity) ≡ (length e.history == e.capacity) =
    ap (λ k. k == d.capacity) alike.count ∙ ap (λ c. length e.history == c) alike.capacity in
    answered_by_cases (λ t. Agree t n x.reply y.reply) d m x.event x.reply h
    (λ full is. answered_by_cases (λ t. Agree d t x.reply y.reply) e n y.event y.reply k
    (λ full' is'. record {
      replies = ap without_cell (equal-replies x.reply (full_reply x.event) is
          ∙ full-same d.state e.state x.event y.event ask
          ∙ sym (equal-replies y.reply (full_reply y.event) is'));
      states = alike.states;
    })
    (λ s room step. not-both (length e.history == e.capacity) (sym rooms ∙ full) room))
    (λ s room step. answered_by_cases (λ t. Agree (running_after d x.event x.reply s) t x.reply y.reply) e n y.event
    y.reply k
    (λ full is. not-both (length e.history == e.capacity) full (sym rooms ∙ room))
    (λ s' room' step'.
    let both = alike-next d.caps e.caps d.state e.state s s' x.event y.event x.reply y.reply (well_formed d i)
    (well_formed e j) alike.states ask step step' take in
    record { replies = both.0; states = both.1 }))

pub stay_alike : (b c : List Record) (d e m n : Running) (a : Action) (r q : Record) → IsNamedEnd a → IsGood b d
    → IsGood c e → AreDevicesAlike d e → answered_by r ≡ event_of b a → answered_by q ≡ event_of c a → Leads d r m
    → Leads e q n
    → ((i k : ℕ) → queue_of_record r ≡ Some i → queue_of_record q ≡ Some k → i ≡ k) → StayAlike m n r q
unfolding fault_in
stay_alike b c d e m n a (Stepped x) (Stepped y) named good fine alike first second h k take =
    let ask = ask_alike b c d.state e.state a x.event y.event named good.given fine.given first second in
    let both = agree d e m n x y good.replay fine.replay alike ask
    (λ i k chose did. take i k (chosen x.reply i chose) (chosen y.reply k did)) h k in
    record {
      devices = grown d e m n x y alike h k both.replies both.states;
      seen = seen_same d.state e.state x.event y.event x.reply y.reply ask both.replies;
      queues = queue-alone x.reply ∙ ap queue_of_reply both.replies ∙ sym (queue-alone y.reply);
    }
stay_alike b c d e m n (Ask x) (Refused f) q named good fine alike first second h k take = absurd cc
stay_alike b c d e m n (Finish engine name o) (Refused f) q named good fine alike first second h k take = absurd cc
stay_alike b c d e m n (Refuse f) (Stepped x) q named good fine alike first second h k take = absurd cc
stay_alike b c d e m n (Ask x) r (Refused f) named good fine alike first second h k take = absurd cc
stay_alike b c d e m n (Finish engine name o) r (Refused f) named good fine alike first second h k take = absurd cc
stay_alike b c d e m n (Refuse f) r (Stepped x) named good fine alike first second h k take = absurd cc
stay_alike b c d e m n (Refuse g) (Refused f) (Refused f') named good fine alike first second h k take =
    let same : f ≡ f' = ap (fault_in f) (first ∙ sym second) in
    record {
      devices = subst (λ x. AreDevicesAlike x n) (sym h) (subst (λ x. AreDevicesAlike d x) (sym k) alike);
      seen = subst (λ x. AreSeenAlike (Refused f) (Refused x)) same (record { texts = refl; shown = λ s. refl });
      queues = refl;
    }

-- ---- two runs

head-in : ℕ → List ℕ → ℕ
head-in d [] = d
head-in d (x ∷ xs) = x

tail-in : List ℕ → List ℕ
tail-in [] = []
tail-in (x ∷ xs) = xs

-- the queues that the records tell entries to be taken from, in turn
abbrev pub queues_told : List Record → List ℕ
queues_told rs = filter_map queue_of_record rs

-- where both tell of a queue first, it is the same
same-head : (r q : Record) (rs qs : List Record) (i k : ℕ) → queues_told (r ∷ rs) ≡ queues_told (q ∷ qs)
    → queue_of_record r ≡ Some i → queue_of_record q ≡ Some k → i ≡ k
unfolding head-in
same-head r q rs qs i k h first second =
    let l : queues_told (r ∷ rs) ≡ i ∷ queues_told rs = rw first refl in
    let m : queues_told (q ∷ qs) ≡ k ∷ queues_told qs = rw second refl in
    ap (head-in i) (sym l ∙ h ∙ m)

-- where both tell of the same queue first, or of none, the rest is the same
same-rest : (r q : Record) (rs qs : List Record) (o : Option ℕ) → queue_of_record r ≡ o → queue_of_record q ≡ o
    → queues_told (r ∷ rs) ≡ queues_told (q ∷ qs) → queues_told rs ≡ queues_told qs
unfolding tail-in
same-rest r q rs qs None first second h =
    let l : queues_told (r ∷ rs) ≡ queues_told rs = rw first refl in
    let m : queues_told (q ∷ qs) ≡ queues_told qs = rw second refl in
    sym l ∙ h ∙ m
same-rest r q rs qs (Some i) first second h =
    let l : queues_told (r ∷ rs) ≡ i ∷ queues_told rs = rw first refl in
    let m : queues_told (q ∷ qs) ≡ i ∷ queues_told qs = rw second refl in
    ap tail-in (sym l ∙ h ∙ m)

-- runs of the same steps that take from the same queues stand alike
pub same_runs : (b c : List Record) (d e m n : Running) (observed : List (Action × Seen)) (rs qs : List Record)
    → AreNamedEnds observed → IsGood b d → IsGood c e → AreDevicesAlike d e → RunFrom b d observed rs m
    → RunFrom c e observed qs n → queues_told rs ≡ queues_told qs → AreDevicesAlike m n
same_runs b c d e m n [] [] [] named good fine alike h k same =
    subst (λ x. AreDevicesAlike x n) h (subst (λ x. AreDevicesAlike d x) k alike)
same_runs b c d e m n [] (r ∷ rs) qs named good fine alike h k same = absurd h
same_runs b c d e m n [] [] (q ∷ qs) named good fine alike h k same = absurd k
same_runs b c d e m n (o ∷ os) [] qs named good fine alike h k same = absurd h
same_runs b c d e m n (o ∷ os) (r ∷ rs) [] named good fine alike h k same = absurd k
same_runs b c d e m n (o ∷ os) (r ∷ rs) (q ∷ qs) named good fine alike h k same =
    let on = stay_alike b c d e h.0 k.0 o.0 r q named.0 good fine alike h.1.answers k.1.answers h.1.leads k.1.leads
    (λ i j first second. same-head r q rs qs i j same first second) in
    same_runs (b ++ r ∷ []) (c ++ q ∷ []) h.0 k.0 m n os rs qs named.1 (good_step b d h.0 r good h.1.leads)
    (good_step c e k.0 q fine k.1.leads) on.devices h.2 k.2
    (same-rest r q rs qs (queue_of_record q) on.queues refl same)

-- the queues that a history tells are those that its records tell
pub queues_of_run : (rs : List Record) → queues_taken (stored_steps (steps_of_records rs)) ≡ queues_told rs
queues_of_run [] = refl
queues_of_run (Refused fault ∷ rs) = queues_of_run rs
queues_of_run (Stepped x ∷ rs) = by (queues_of_run rs) (is_stored x.reply) refl
  where
    kept : (r : Reply) → is_stored r ≡ false → queue_of_reply r ≡ None
    kept (reply.Dispatch (Taken t q)) h = absurd cc
    kept _ h = refl

    more : queues_taken (stored_steps (steps_of_records rs)) ≡ queues_told rs → (o : Option ℕ)
        → queue_of_reply x.reply ≡ o
        → queues_taken (x ∷ stored_steps (steps_of_records rs)) ≡ queues_told (Stepped x ∷ rs)
    more ih None is =
        let a : queues_taken (x ∷ stored_steps (steps_of_records rs))
        ≡ queues_taken (stored_steps (steps_of_records rs)) =
        rw is refl in
        let b : queues_told (Stepped x ∷ rs) ≡ queues_told rs = rw is refl in
        a ∙ ih ∙ sym b
    more ih (Some q) is =
        let a : queues_taken (x ∷ stored_steps (steps_of_records rs))
        ≡ q ∷ queues_taken (stored_steps (steps_of_records rs)) =
        rw is refl in
        let b : queues_told (Stepped x ∷ rs) ≡ q ∷ queues_told rs = rw is refl in
        a ∙ ap (λ l. q ∷ l) (ih) ∙ sym b

    by : queues_taken (stored_steps (steps_of_records rs)) ≡ queues_told rs → (b : Bool) → is_stored x.reply ≡ b
        → queues_taken (stored_steps (steps_of_records (Stepped x ∷ rs))) ≡ queues_told (Stepped x ∷ rs)
    by ih true is =
        let first : queues_taken (stored_steps (steps_of_records (Stepped x ∷ rs)))
        ≡ queues_taken (x ∷ stored_steps (steps_of_records rs)) = rw is refl in
        first ∙ more ih (queue_of_reply x.reply) refl
    by ih false is =
        let first : queues_taken (stored_steps (steps_of_records (Stepped x ∷ rs)))
        ≡ queues_taken (stored_steps (steps_of_records rs)) = rw is refl in
        let none : queues_told (Stepped x ∷ rs) ≡ queues_told rs = rw (kept x.reply is) refl in
        first ∙ ih ∙ sym none

-- with one step more
pub taken_more : (steps : List Step) (i : ℕ) (x : Step) → i < length steps → x ≡ get_or steps i x
    → queues_taken (take (i + 1) steps) ≡ queues_taken (take i steps) ++ queues_taken (x ∷ [])
taken_more steps i x inside is =
    ap queues_taken (take_more steps i x inside ∙ ap (λ y. take i steps ++ y ∷ []) (sym is))
    ∙ filter_map-append (λ (step : Step). queue_of_reply step.reply) (take i steps) (x ∷ [])
