-- Walks whose page is emptied on the way.
use Rattle.std.proofs.Common.{◌≡◌, ◌≢◌, ℕ, List, [], ◌∷◌, ◌++◌, refl, ap, ◌∙◌, sym, ◌+◌, append_assoc, subst, map, take, length}
use Rattle.std.proofs.Common.{Some, None, Option, flat_map, arith, ◌⊎◌, inl, inr, option_map, Err}
use Rattle.std.proofs.{Math.Seq.{take-append_seam}, lemmas.{List.{take-map, take_all, length-map}, Option.{slice_get-map}}}
use Rattle.std.specs.{Io.KnownBytes.{Appends}, Prelude.{⊤, slice_get}}
use Rattle.serde_json.specs.{Data.{Data}, View.{view}, declared.value.Value.{Value}}
use Rattle.dsa_regs.specs.declared.Caps.{Caps}
use Rattle.dsa_book.specs.declared.answer.Ticket.{Ticket}
use Rattle.dsa_device.specs.Running.{Running}
use Rattle.dsa_scenario.specs.declared.watched.WatchedWriter.{WatchedWriter}
use Rattle.dsa_scenario.specs.{declared.actions.Action.{Action}, Actions.{action_of}, Watched.{watched_contents, IsWrittenFor}}
use Rattle.dsa_scenario.specs.Document.{HasHead, IsDocument, IsOpenable, IsFirstBad}
use Rattle.dsa_scenario.specs.declared.faults.ScenarioFault.{ScenarioFault, TheVariants.{BadStep, Write, OutOfMemory}}
use Rattle.dsa_scenario.specs.Steps.{Visit, visits, IsAtFirst, IsWalkTo, IsTextOfRun, IsTextOfDocument}
use Rattle.dsa_scenario.specs.Streams.{IsPageBehind, IsPageOfRest, BeginWith, HasWalked, IsPartWritten, HasTakenLines}
use Rattle.dsa_scenario.specs.Streams.{HasRefusedLines, AreFirstLines, AreLinesOfStart, IsTextAdded, IsTextCut}
use Rattle.dsa_scenario.proofs.{Walks.{text_of_run, opened}, StreamWrites.{none_taken, written_memory, written_refusal}}

-- a page of the others, with one step more
pub behind_more : {Page : Type 0} (is_page : List Visit → Page → Type 0) (done steps : List Visit) (step : Visit)
    (page longer : Page) → ((rest : List Visit) → is_page rest page → is_page (rest ++ step ∷ []) longer)
    → IsPageBehind done is_page steps page → IsPageBehind done is_page (steps ++ step ∷ []) longer
behind_more is_page done steps step page longer adds (rest, split, made) =
    (rest ++ step ∷ [], ap (λ l. l ++ step ∷ []) split ∙ append_assoc done rest (step ∷ []), adds rest made)

-- a page from which more was taken
pub taken_more : {Page : Type 0} (taken more : List Visit → Type 0) (is_page : List Visit → Page → Type 0)
    (page left : Page) → ((done rest : List Visit) → taken done → is_page rest page
    → IsPageOfRest (λ next. more (done ++ next)) is_page rest left)
    → (steps : List Visit) → IsPageOfRest taken is_page steps page → IsPageOfRest more is_page steps left
taken_more taken more is_page page left takes steps (done, was, (rest, split, made)) =
    let now = takes done rest was made in (
      done ++ now.0,
      now.1,
      (
        now.2.0,
        split ∙ ap (λ l. done ++ l) now.2.1 ∙ sym (append_assoc done now.0 now.2.0),
        now.2.2,
      ),
    )

-- the walk of these steps with another page
pub with_page : {Page Other : Type 0} (is_page : List Visit → Page → Type 0) (is_other : List Visit → Other → Type 0)
    (caps : Caps) (capacity : ℕ) (actions : List Action) (number : ℕ) (now : Running) (tickets : List Ticket)
    (page : Page) (other : Other) → (h : IsWalkTo is_page caps capacity actions number now tickets page)
    → is_other (visits caps capacity [] h.records) other
    → IsWalkTo is_other caps capacity actions number now tickets other
with_page is_page is_other caps capacity actions number now tickets page other h made = record {
  records = h.records;
  of_actions = h.of_actions;
  count = h.count;
  run = h.run;
  room = h.room;
  not_anew = h.not_anew;
  replay = h.replay;
  table = h.table;
  in_turn = h.in_turn;
  made = made;
}

-- and with a page that follows from the first
pub other_page : {Page Other : Type 0} (is_page : List Visit → Page → Type 0) (is_other : List Visit → Other → Type 0)
    (caps : Caps) (capacity : ℕ) (actions : List Action) (number : ℕ) (now : Running) (tickets : List Ticket)
    (page : Page) (other : Other) → ((steps : List Visit) → is_page steps page → is_other steps other)
    → IsWalkTo is_page caps capacity actions number now tickets page
    → IsWalkTo is_other caps capacity actions number now tickets other
other_page is_page is_other caps capacity actions number now tickets page other follows h =
    with_page is_page is_other caps capacity actions number now tickets page other h
    (follows (visits caps capacity [] h.records) h.made)

-- a step more where some were taken
pub step_behind : {Page : Type 0} (taken : List Visit → Type 0) (is_page : List Visit → Page → Type 0) (caps : Caps)
    (capacity : ℕ) (actions : List Action) (action : Action) (number : ℕ) (now new : Running)
    (tickets more : List Ticket) (page longer : Page)
    → ((done : List Visit) → IsWalkTo (IsPageBehind done is_page) caps capacity actions number now tickets page
    → IsWalkTo (IsPageBehind done is_page) caps capacity (actions ++ action ∷ []) (number + 1) new more longer)
    → IsWalkTo (IsPageOfRest taken is_page) caps capacity actions number now tickets page
    → IsWalkTo (IsPageOfRest taken is_page) caps capacity (actions ++ action ∷ []) (number + 1) new more longer
step_behind taken is_page caps capacity actions action number now new tickets more page longer steps h =
    let made = h.made in
    other_page (IsPageBehind made.0 is_page) (IsPageOfRest taken is_page) caps capacity (actions ++ action ∷ [])
    (number + 1) new more longer longer (λ all behind. (made.0, made.1, behind))
    (steps made.0 (with_page (IsPageOfRest taken is_page) (IsPageBehind made.0 is_page) caps capacity actions number now
    tickets page page h made.2))

-- a walk that stops where the first steps were taken
pub walked_so_far : {Page : Type 0} (taken : List Visit → Type 0) (is_page : List Visit → Page → Type 0) (caps : Caps)
    (capacity : ℕ) (objects : List Data) (actions : List Action) (count : ℕ) (now : Running) (tickets : List Ticket)
    (page : Page) → map action_of (take count objects) ≡ map Some actions
    → IsWalkTo (IsPageOfRest taken is_page) caps capacity actions count now tickets page
    → HasWalked (BeginWith taken) caps capacity objects
walked_so_far taken is_page caps capacity objects actions count now tickets page asked h = record {
  count = count;
  actions = actions;
  now = now;
  tickets = tickets;
  asked = asked;
  walk = other_page (IsPageOfRest taken is_page) (λ steps (_ : ⊤). BeginWith taken steps) caps capacity actions count now tickets
      page tt (λ steps made. (made.0, made.2.0, made.2.1, made.1)) h;
}

-- and where the sink refuses what is made of them
pub walked_to_refusal : {Page : Type 0} (taken stopped : List Visit → Type 0) (is_page : List Visit → Page → Type 0)
    (caps : Caps) (capacity : ℕ) (objects : List Data) (actions : List Action) (count : ℕ) (now : Running)
    (tickets : List Ticket) (page : Page) → map action_of (take count objects) ≡ map Some actions
    → ((done rest : List Visit) → taken done → is_page rest page → stopped (done ++ rest))
    → IsWalkTo (IsPageOfRest taken is_page) caps capacity actions count now tickets page
    → HasWalked stopped caps capacity objects
walked_to_refusal taken stopped is_page caps capacity objects actions count now tickets page asked stops h = record {
  count = count;
  actions = actions;
  now = now;
  tickets = tickets;
  asked = asked;
  walk = other_page (IsPageOfRest taken is_page) (λ steps (_ : ⊤). stopped steps) caps capacity actions count now tickets
      page tt (λ steps made. subst stopped (sym made.2.1) (stops made.0 made.2.0 made.1 made.2.2)) h;
}

-- a walk from whose page nothing is taken
pub kept_walk : {Page : Type 0} (is_page : List Visit → Page → Type 0) (caps : Caps) (capacity : ℕ)
    (actions : List Action) (number : ℕ) (now new : Running) (tickets more : List Ticket) (page longer : Page)
    → (IsWalkTo (IsPageOfRest (λ done. done ≡ []) is_page) caps capacity [] 0 now tickets page
    → IsWalkTo (IsPageOfRest (λ done. done ≡ []) is_page) caps capacity actions number new more longer)
    → IsWalkTo is_page caps capacity [] 0 now tickets page
    → IsWalkTo is_page caps capacity actions number new more longer
kept_walk is_page caps capacity actions number now new tickets more page longer walks h =
    other_page (IsPageOfRest none is_page) is_page caps capacity actions number new more longer longer
    (λ steps made. subst (λ s. is_page s longer) (sym (made.2.1 ∙ ap (λ d. d ++ made.2.0) made.1)) made.2.2)
    (walks (other_page is_page (IsPageOfRest none is_page) caps capacity [] 0 now tickets page page
    (λ steps made. ([], refl, (steps, refl, made))) h))
  where
    none : List Visit → Type 0
    none done = done ≡ []

-- what some step objects ask is the first of what all ask
first_asked : (objects : List Data) (all actions : List Action) (count : ℕ) → map action_of objects ≡ map Some all
    → map action_of (take count objects) ≡ map Some actions → actions ≡ take count all
first_asked objects all actions count asked some = map_Some-injective actions (take count all)
    (sym some ∙ sym (take-map action_of count objects) ∙ ap (take count) asked ∙ take-map Some count all)
  where
    map_Some-injective : (xs ys : List Action) → map Some xs ≡ map Some ys → xs ≡ ys
    map_Some-injective [] [] e = refl
    map_Some-injective [] (y ∷ ys) e = absurd cc
    map_Some-injective (x ∷ xs) [] e = absurd cc
    map_Some-injective (x ∷ xs) (y ∷ ys) e =
        let here : Some x ≡ Some y = cc in
        let rest : map Some xs ≡ map Some ys = cc in
        let behind = map_Some-injective xs ys rest in
        let same : x ≡ y = cc in
        cc

-- a device is opened by the head of the bytes, whose step objects ask all of these actions
pub record IsOpened (bytes : List ℕ) (caps : Caps) (capacity : ℕ) (objects : List Data) (all : List Action)
    : Type 0 where
  pub head : HasHead bytes caps capacity objects
  pub asked : map action_of objects ≡ map Some all
  pub opening : IsOpenable caps capacity

is_document : (bytes : List ℕ) (caps : Caps) (capacity : ℕ) (objects : List Data) (all : List Action)
    → IsOpened bytes caps capacity objects all → IsDocument bytes caps capacity all
is_document bytes caps capacity objects all opened =
    record { steps = objects; head = opened.head; asked = opened.asked }

-- the lines of the first steps of a walk
lines_of_walk : {Page : Type 0} (is_page : List Visit → Page → Type 0) (line : Visit → List ℕ) (bytes : List ℕ)
    (caps : Caps) (capacity : ℕ) (objects : List Data) (all actions : List Action) (count : ℕ) (now : Running)
    (tickets : List Ticket) (page : Page) (n : ℕ) → IsOpened bytes caps capacity objects all
    → map action_of (take count objects) ≡ map Some actions
    → (h : IsWalkTo is_page caps capacity actions count now tickets page)
    → AreLinesOfStart line bytes (flat_map line (take n (visits caps capacity [] h.records)))
lines_of_walk is_page line bytes caps capacity objects all actions count now tickets page n opened asked h =
    let steps = visits caps capacity [] h.records in
    let of_run : IsTextOfRun (AreFirstLines line) caps capacity actions (flat_map line (take n steps)) =
    text_of_run (λ made (_ : ⊤). made ≡ steps) (AreFirstLines line) caps capacity actions count now tickets tt _
    (with_page is_page (λ made (_ : ⊤). made ≡ steps) caps capacity actions count now tickets page tt h refl)
    (λ made same. (n, ap (λ l. flat_map line (take n l)) (sym same))) in
    record {
      caps = caps;
      capacity = capacity;
      actions = all;
      count = count;
      document = is_document bytes caps capacity objects all opened;
      opening = opened.opening;
      of_run = subst (λ a. IsTextOfRun (AreFirstLines line) caps capacity a (flat_map line (take n steps)))
          (first_asked objects all actions count opened.asked asked) of_run;
    }

-- what was taken where a walk stops is the lines of the first steps
pub lines_taken : {W : Type 0} (contents : W → Option (List ℕ)) (line : Visit → List ℕ) (first now : WatchedWriter W)
    (bytes : List ℕ) (caps : Caps) (capacity : ℕ) (objects : List Data) (all : List Action)
    → IsOpened bytes caps capacity objects all
    → HasWalked (BeginWith (HasTakenLines contents line first now)) caps capacity objects
    → IsTextAdded (AreLinesOfStart line bytes) (watched_contents contents first) (watched_contents contents now)
lines_taken contents line first now bytes caps capacity objects all opened h =
    let made = h.walk.made in
    let front : take (length made.0) (visits caps capacity [] h.walk.records) ≡ made.0 =
    ap (take (length made.0)) made.2 ∙ take-append_seam made.0 made.1 in (
      flat_map line (take (length made.0) (visits caps capacity [] h.walk.records)),
      lines_of_walk _ line bytes caps capacity objects all h.actions h.count h.now h.tickets tt (length made.0) opened
          h.asked h.walk,
      subst (λ l. Appends (watched_contents contents first) (watched_contents contents now) (flat_map line l))
          (sym front) made.3.lines,
    )

-- and where the writer refuses, a part of such lines
pub lines_cut : {W : Type 0} (contents : W → Option (List ℕ)) (line : Visit → List ℕ) (first now : WatchedWriter W)
    (bytes : List ℕ) (caps : Caps) (capacity : ℕ) (objects : List Data) (all : List Action)
    → IsOpened bytes caps capacity objects all
    → HasWalked (HasRefusedLines contents line first now) caps capacity objects
    → IsTextCut (AreLinesOfStart line bytes) (watched_contents contents first) (watched_contents contents now)
lines_cut contents line first now bytes caps capacity objects all opened h =
    let steps = visits caps capacity [] h.walk.records in
    let whole : take (length steps) steps ≡ steps = take_all (length steps) steps (omega arith) in (
      flat_map line (take (length steps) steps),
      lines_of_walk _ line bytes caps capacity objects all h.actions h.count h.now h.tickets tt (length steps) opened
          h.asked h.walk,
      subst (λ l. IsPartWritten (watched_contents contents first) (watched_contents contents now) (flat_map line l))
          (sym whole) h.walk.made.lines,
    )

-- what was made of all steps
pub text_of_rest : {W Page : Type 0} (contents : W → Option (List ℕ)) (line : Visit → List ℕ)
    (is_page : List Visit → Page → Type 0) (is_text : List Visit → Running → List ℕ → Type 0) (first now : WatchedWriter W)
    (bytes : List ℕ) (caps : Caps) (capacity : ℕ) (objects : List Data) (all : List Action) (count : ℕ) (last : Running)
    (tickets : List Ticket) (page : Page) (text : List ℕ) → IsOpened bytes caps capacity objects all
    → IsWalkTo (IsPageOfRest (HasTakenLines contents line first now) is_page) caps capacity all count last tickets page
    → ((rest : List Visit) → is_page rest page → is_text rest last text)
    → ((done rest : List Visit) → is_text rest last text → is_text (done ++ rest) last (flat_map line done ++ text))
    → (done : List Visit) × HasTakenLines contents line first now done
    × IsTextOfDocument is_text bytes (flat_map line done ++ text)
text_of_rest contents line is_page is_text first now bytes caps capacity objects all count last tickets page text opened
    h ends continues =
    let made = h.made in
    let whole = flat_map line made.0 ++ text in
    let is_whole : is_text (visits caps capacity [] h.records) last whole =
    subst (λ steps. is_text steps last whole) (sym made.2.1) (continues made.0 made.2.0 (ends made.2.0 made.2.2)) in (
      made.0,
      made.1,
      record {
        caps = caps;
        capacity = capacity;
        actions = all;
        document = is_document bytes caps capacity objects all opened;
        opening = opened.opening;
        of_run = text_of_run (λ steps (_ : ⊤). is_text steps last whole) is_text caps capacity all count last tickets
            tt whole (with_page (IsPageOfRest (HasTakenLines contents line first now) is_page)
            (λ steps (_ : ⊤). is_text steps last whole) caps capacity all count last tickets page tt h is_whole)
            (λ steps is. is);
      },
    )

-- a walk over all step objects
pub walked_to_end : {Page : Type 0} (taken : List Visit → Type 0) (is_page : List Visit → Page → Type 0) (caps : Caps)
    (capacity : ℕ) (steps : List Value) (actions : List Action) (now : Running) (tickets : List Ticket) (page : Page)
    → map action_of (map view steps) ≡ map Some actions
    → IsWalkTo (IsPageOfRest taken is_page) caps capacity actions (length steps) now tickets page
    → HasWalked (BeginWith taken) caps capacity (map view steps)
walked_to_end taken is_page caps capacity steps actions now tickets page asked h =
    let all : take (length steps) (map view steps) ≡ map view steps =
    take_all (length steps) (map view steps) (omega (arith, length-map steps view)) in
    walked_so_far taken is_page caps capacity (map view steps) actions (length steps) now tickets page
    (ap (map action_of) all ∙ asked) h

-- a walk over step objects alone stops for want of memory, or because the sink refuses
pub why_stopped : {Refuses : Type 0} (objects : List Data) (all : List Action) (e : ScenarioFault)
    → map action_of objects ≡ map Some all
    → (e ≡ OutOfMemory) ⊎ (e ≡ Write) × Refuses ⊎ IsFirstBad objects e → (e ≡ OutOfMemory) ⊎ (e ≡ Write)
why_stopped objects all e asked (inl memory) = inl memory
why_stopped objects all e asked (inr (inl refused)) = inr refused.0
why_stopped objects all (BadStep i) asked (inr (inr bad)) =
    absurd (none (slice_get all i) (sym (slice_get-map Some all i) ∙ ap (λ l. slice_get l i) (sym asked)
    ∙ slice_get-map action_of objects i ∙ bad.here))
  where
    none : (o : Option Action) → option_map Some o ≡ Some None → ⊥
    none None e = absurd cc
    none (Some a) e = absurd cc
why_stopped objects all _ asked (inr (inr bad)) = absurd bad

-- a new device, of whose run the writer took nothing yet
pub opened_stream : {W Page : Type 0} (contents : W → Option (List ℕ)) (line : Visit → List ℕ)
    (is_page : List Visit → Page → Type 0) (first : WatchedWriter W) (caps : Caps) (capacity : ℕ) (now : Running)
    (tickets : List Ticket) (page : Page) → IsAtFirst caps capacity now tickets → is_page [] page
    → IsWalkTo (IsPageOfRest (HasTakenLines contents line first first) is_page) caps capacity [] 0 now tickets page
opened_stream contents line is_page first caps capacity now tickets page new blank =
    opened (IsPageOfRest (HasTakenLines contents line first first) is_page) caps capacity now tickets page new
    ([], none_taken contents line first, ([], refl, blank))

-- what a walk did that stopped
pub written_where_stopped : {T W Refuses : Type 0} (contents : W → Option (List ℕ)) (line : Visit → List ℕ)
    (first now : WatchedWriter W) (caps : Caps) (capacity : ℕ) (objects : List Data) (all : List Action)
    (e : ScenarioFault) → map action_of objects ≡ map Some all
    → (e ≡ OutOfMemory) ⊎ (e ≡ Write) × Refuses ⊎ IsFirstBad objects e
    → (e ≡ Write → HasWalked (HasRefusedLines contents line first now) caps capacity objects)
    × (e ≢ Write → HasWalked (BeginWith (HasTakenLines contents line first now)) caps capacity objects)
    → IsWrittenFor {T = T} (Err e) first now
written_where_stopped contents line first now caps capacity objects all e asked why stopped =
    elim (why_stopped objects all e asked why) [
      | inl memory ↦
          let made = (stopped.1 (λ refused. absurd cc)).walk.made in
          rw memory (written_memory contents line first now made.0 made.3)
      | inr refused ↦ rw refused (written_refusal contents line first now _ (stopped.0 refused).walk.made)
    ]
