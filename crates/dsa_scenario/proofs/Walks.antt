-- One step more of a walk, and its end.
use Rattle.std.proofs.Common.{◌≡◌, ℕ, List, [], ◌∷◌, ◌++◌, Result, false, refl, ap, ◌∙◌, sym, ◌+◌, length, arith, subst}
use Rattle.std.proofs.Common.{append_assoc, append-nil, filter_map, length-append}
use Rattle.std.specs.Prelude.{slice_get, suc}
use Rattle.dsa_regs.specs.declared.Caps.{Caps}
use Rattle.dsa_book.specs.declared.{answer.Ticket.{Ticket}, event.Event.{Event}}
use Rattle.dsa_book.specs.{Machine.{stored_steps}}
use Rattle.dsa_device.specs.Running.{Running, running_at_first, IsReplay}
use Rattle.dsa_scenario.specs.declared.actions.BadWord.{BadWord}
use Rattle.dsa_scenario.specs.declared.{actions.Action.{Action}, run.Record.{Record}}
use Rattle.dsa_scenario.specs.Run.{ticket_given_by, event_of, answered_by, steps_of_records, AreOf, Leads, IsTable}
use Rattle.dsa_scenario.specs.Steps.{standing, Visit, visit, visits, IsAtFirst, IsWalkTo, IsTextOfRun}
use Rattle.dsa_scenario.proofs.{Records.{AreOf-push, gives, Goes, goes_nowhere, goes_on}, Tickets.{IsTable-noted}}

-- the step of a record behind those before
abbrev visit_behind : Caps → ℕ → List Record → Record → Visit
visit_behind caps capacity before entry =
    visit (length before) (standing caps capacity before) entry (standing caps capacity (before ++ entry ∷ []))

-- the steps of these records and of one more
visits-push : (caps : Caps) (capacity : ℕ) (before records : List Record) (entry : Record)
    → visits caps capacity before (records ++ entry ∷ [])
    ≡ visits caps capacity before records ++ visit_behind caps capacity (before ++ records) entry ∷ []
visits-push caps capacity before [] entry =
    ap (λ r. visit_behind caps capacity r entry ∷ []) (sym (append-nil before))
visits-push caps capacity before (r ∷ records) entry =
    let here = visit_behind caps capacity before r in
    ap (λ l. here ∷ l) (visits-push caps capacity (before ++ r ∷ []) records entry)
    ∙ ap (λ rs. here ∷ visits caps capacity (before ++ r ∷ []) records ++ visit_behind caps capacity rs entry ∷ [])
    (append_assoc before (r ∷ []) records)

-- a device that has come by these records stands as they say
pub stands : (caps : Caps) (capacity : ℕ) (records : List Record) (now : Running)
    → Goes (running_at_first caps capacity) now records → standing caps capacity records ≡ now
stands caps capacity records now h =
    let run = h.run in
    let history : now.history ≡ stored_steps (steps_of_records records) = rw run.added run.history in
    let replayed = rw history at run.replayed in
    let parts : standing caps capacity records ≡ record now { room = capacity; anew = false } =
    rw (replayed, ← history, ← run.same_caps, ← run.same_capacity) refl in
    let same : record now { room = capacity; anew = false } ≡ now = rw (← h.room, ← h.anew) refl in
    parts ∙ same

-- a walk goes by its records
pub walk_goes : {Page : Type 0} (is_page : List Visit → Page → Type 0) (caps : Caps) (capacity : ℕ) (actions : List Action)
    (number : ℕ) (now : Running) (tickets : List Ticket) (page : Page)
    (h : IsWalkTo is_page caps capacity actions number now tickets page)
    → Goes (running_at_first caps capacity) now h.records
walk_goes is_page caps capacity actions number now tickets page h =
    record { run = h.run; room = h.room; anew = h.not_anew; replay = h.replay }

-- and its device stands as they say
pub walk_stands : {Page : Type 0} (is_page : List Visit → Page → Type 0) (caps : Caps) (capacity : ℕ)
    (actions : List Action) (number : ℕ) (now : Running) (tickets : List Ticket) (page : Page)
    (h : IsWalkTo is_page caps capacity actions number now tickets page) → standing caps capacity h.records ≡ now
walk_stands is_page caps capacity actions number now tickets page h =
    stands caps capacity h.records now (walk_goes is_page caps capacity actions number now tickets page h)

-- a walk with one action more, its ticket and its step
pub one_more : {Page : Type 0} (is_page : List Visit → Page → Type 0) (told_before : Running → Result Event BadWord → List ℕ)
    (caps : Caps) (capacity : ℕ) (now new : Running) (actions : List Action) (a : Action) (number : ℕ)
    (tickets more : List Ticket) (page longer : Page) (told : List ℕ) (entry : Record) (asked : Result Event BadWord)
    → ((before : List Record) → IsTable (slice_get tickets) before → asked ≡ event_of before a)
    → answered_by entry ≡ asked → Leads now entry new → more ≡ tickets ++ filter_map ticket_given_by (entry ∷ [])
    → told ≡ told_before now asked
    → ((steps : List Visit) → (before : Running) → told ≡ told_before before (answered_by entry) → is_page steps page
    → is_page (steps ++ visit number before entry new ∷ []) longer)
    → IsWalkTo is_page caps capacity actions number now tickets page
    → IsWalkTo is_page caps capacity (actions ++ a ∷ []) (number + 1) new more longer
one_more is_page told_before caps capacity now new actions a number tickets more page longer told entry asked asks
    answers leads noted tells adds h =
    let named = gives now new entry leads in
    let on = goes_on (running_at_first caps capacity) now new h.records entry
    (walk_goes is_page caps capacity actions number now tickets page h) leads in
    let before = walk_stands is_page caps capacity actions number now tickets page h in
    let after = stands caps capacity (h.records ++ entry ∷ []) new on in
    let here : visit_behind caps capacity h.records entry ≡ visit number now entry new =
    rw (before, after, h.count) refl in
    let steps = visits caps capacity [] h.records in
    let added : is_page (steps ++ visit number now entry new ∷ []) longer =
    adds steps now (tells ∙ ap (λ q. told_before now q) (sym answers)) h.made in
    let all : visits caps capacity [] (h.records ++ entry ∷ []) ≡ steps ++ visit number now entry new ∷ [] =
    visits-push caps capacity [] h.records entry ∙ ap (λ v. steps ++ v ∷ []) here in
    record {
      records = h.records ++ entry ∷ [];
      of_actions = AreOf-push [] actions h.records a entry h.of_actions (answers ∙ asks h.records h.table);
      count = length-append h.records (entry ∷ []) ∙ ap (λ n. n + 1) h.count;
      run = on.run;
      room = on.room;
      not_anew = on.anew;
      replay = on.replay;
      table = IsTable-noted tickets more h.records entry h.table (rw h.in_turn named.0) noted;
      in_turn = ap length noted ∙ length-append tickets (filter_map ticket_given_by (entry ∷ []))
          ∙ omega (arith, h.in_turn, named.1);
      made = subst (λ v. is_page v longer) (sym all) added;
    }

-- a new device has run nothing
pub opened : {Page : Type 0} (is_page : List Visit → Page → Type 0) (caps : Caps) (capacity : ℕ) (now : Running)
    (tickets : List Ticket) (page : Page) → IsAtFirst caps capacity now tickets → is_page [] page
    → IsWalkTo is_page caps capacity [] 0 now tickets page
opened is_page caps capacity now tickets page first blank =
    let replay : IsReplay (running_at_first caps capacity) = rw first.device at first.replay in
    rw (first.device, first.none) (record {
      records = [];
      of_actions = tt;
      count = refl;
      run = (goes_nowhere caps capacity replay).run;
      room = refl;
      not_anew = refl;
      replay = replay;
      table = λ name. refl;
      in_turn = refl;
      made = blank;
    })

-- a walk has a record for each action
pub records_count : (before : List Record) (actions : List Action) (records : List Record) → AreOf before actions records
    → length records ≡ length actions
records_count before [] [] h = refl
records_count before [] (r ∷ rs) h = absurd h
records_count before (a ∷ actions) [] h = absurd h
records_count before (a ∷ actions) (r ∷ rs) h = ap suc (records_count (before ++ r ∷ []) actions rs h.1)

-- and a step for each record
pub visits_count : (caps : Caps) (capacity : ℕ) (before records : List Record)
    → length (visits caps capacity before records) ≡ length records
visits_count caps capacity before [] = refl
visits_count caps capacity before (r ∷ records) = ap suc (visits_count caps capacity (before ++ r ∷ []) records)

-- so its number is that of the actions
pub counted : {Page : Type 0} (is_page : List Visit → Page → Type 0) (caps : Caps) (capacity : ℕ) (actions : List Action)
    (number : ℕ) (now : Running) (tickets : List Ticket) (page : Page)
    → IsWalkTo is_page caps capacity actions number now tickets page
    → IsWalkTo is_page caps capacity actions (length actions) now tickets page
counted is_page caps capacity actions number now tickets page h =
    subst (λ n. IsWalkTo is_page caps capacity actions n now tickets page)
    (sym h.count ∙ records_count [] actions h.records h.of_actions) h

-- the text of a walk on a new device
pub text_of_run : {Page : Type 0} (is_page : List Visit → Page → Type 0)
    (is_text : List Visit → Running → List ℕ → Type 0) (caps : Caps) (capacity : ℕ) (actions : List Action)
    (number : ℕ) (now : Running) (tickets : List Ticket) (page : Page) (text : List ℕ)
    → IsWalkTo is_page caps capacity actions number now tickets page
    → ((steps : List Visit) → is_page steps page → is_text steps now text)
    → IsTextOfRun is_text caps capacity actions text
text_of_run is_page is_text caps capacity actions number now tickets page text h ends =
    let steps = visits caps capacity [] h.records in
    record {
      records = h.records;
      last = now.state;
      of_actions = h.of_actions;
      run = rw h.run.added h.run.allowed;
      replayed = rw h.run.added (rw h.run.history at h.run.replayed);
      rendered = subst (λ d. is_text steps d text)
          (sym (walk_stands is_page caps capacity actions number now tickets page h)) (ends steps h.made);
    }
