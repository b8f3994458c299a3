-- What is written of a trace with own names, where its run goes on to the end and where it stops.
use Rattle.std.proofs.Common.{◌≡◌, ◌≢◌, ◌∙◌, ◌+◌, ℕ, List, [], ◌∷◌, ◌++◌, ap, refl, sym, subst, take, length}
use Rattle.std.proofs.Common.{flat_map, Option, Result, Ok, Err, ◌⊎◌, inl, inr, take_all, arith}
use Rattle.std.proofs.Math.Seq.{take-append_seam}
use Rattle.std.specs.Prelude.{⊤}
use Rattle.std.proofs.KnownBytes.{Appends-nil}
use Rattle.serde_json.specs.Data.{Data}
use Rattle.dsa_regs.specs.declared.Caps.{Caps}
use Rattle.dsa_book.specs.declared.answer.Ticket.{Ticket}
use Rattle.dsa_device.specs.Running.{Running}
use Rattle.dsa_scenario.specs.declared.actions.Action.{Action}
use Rattle.dsa_scenario.specs.declared.faults.ScenarioFault.{ScenarioFault, TheVariants.{BadStep, Write, OutOfMemory}}
use Rattle.dsa_scenario.specs.declared.watched.WatchedWriter.{WatchedWriter}
use Rattle.dsa_scenario.specs.Document.{IsFaultOfHead, IsFirstBad}
use Rattle.dsa_scenario.specs.Steps.{Visit, visits, IsAtFirst, IsWalkTo}
use Rattle.dsa_scenario.specs.Streams.{IsTextAdded, IsTextCut}
use Rattle.dsa_scenario.specs.Watched.{watched_contents, IsWrittenFor}
use Rattle.dsa_scenario.proofs.StreamWrites.{lines_before}
use Rattle.dsa_scenario.proofs.{Streams.{IsOpened, other_page, with_page}, Walks.{opened, text_of_run}}
use Rattle.dsa_named.specs.{Names.{Own}, Steps.{NamedVisit, named_visits, with_names}}
use Rattle.dsa_trace.specs.{declared.form.Trace.{Trace}, Held.{held_lines}}
use Rattle.dsa_named_trace.specs.{Lines.{named_trace_line}, Run.{IsNamedTrace, IsNamedTraceOf}}
use Rattle.dsa_named_trace.specs.Streams.{AreFirstNamedLines, AreNamedLinesOfStart, HasRefusedNamed, HasTakenFirst}
use Rattle.dsa_named_trace.specs.Streams.{HasTakenNamed, IsNamedPageOf, IsStoppedAt, IsTakenFrom}

-- a new device, of whose run the writer took nothing yet
pub opened_trace : {W : Type 0} (contents : W → Option (List ℕ)) (form : Trace) (objects : List Data)
    (first : WatchedWriter W) (caps : Caps) (capacity : ℕ) (now : Running) (tickets : List Ticket) (text : List ℕ)
    (names : List Own) → text ≡ [] → names ≡ [] → IsAtFirst caps capacity now tickets
    → IsWalkTo (IsTakenFrom form objects (HasTakenNamed contents form first first)) caps capacity [] 0 now tickets
    (text, names)
opened_trace contents form objects first caps capacity now tickets text names blank none new =
    opened (IsTakenFrom form objects (HasTakenNamed contents form first first)) caps capacity now tickets (
      text,
      names,
    ) new (
      [],
      record { same = refl; refused = refl; lines = Appends-nil (watched_contents contents first) },
      record { rest = []; split = refl; lines = blank; given = none },
    )

-- the walk of other actions that are the same
pub walk_along : {Page : Type 0} (is_page : List Visit → Page → Type 0) (caps : Caps) (capacity : ℕ)
    (actions others : List Action) (number : ℕ) (now : Running) (tickets : List Ticket) (page : Page)
    → actions ≡ others → IsWalkTo is_page caps capacity actions number now tickets page
    → IsWalkTo is_page caps capacity others number now tickets page
walk_along is_page caps capacity actions others number now tickets page same h =
    subst (λ a. IsWalkTo is_page caps capacity a number now tickets page) same h

-- a step more where some were taken
pub step_taken : (form : Trace) (objects : List Data) (is_taken : List NamedVisit → Type 0) (caps : Caps)
    (capacity : ℕ) (actions : List Action) (action : Action) (number : ℕ) (now new : Running)
    (tickets more : List Ticket) (page longer : List ℕ × List Own)
    → ((taken : List NamedVisit) → IsWalkTo (IsNamedPageOf form objects taken) caps capacity actions number now
    tickets page
    → IsWalkTo (IsNamedPageOf form objects taken) caps capacity (actions ++ action ∷ []) (number + 1) new more longer)
    → IsWalkTo (IsTakenFrom form objects is_taken) caps capacity actions number now tickets page
    → IsWalkTo (IsTakenFrom form objects is_taken) caps capacity (actions ++ action ∷ []) (number + 1) new more longer
step_taken form objects is_taken caps capacity actions action number now new tickets more page longer steps h =
    let made = h.made in
    other_page (IsNamedPageOf form objects made.0) (IsTakenFrom form objects is_taken) caps capacity
    (actions ++ action ∷ []) (number + 1) new more longer longer (λ all named. (made.0, made.1, named))
    (steps made.0 (with_page (IsTakenFrom form objects is_taken) (IsNamedPageOf form objects made.0) caps capacity
    actions
    number now tickets page page h made.2))

-- a walk that stops where the lines of the first steps were taken
pub stopped_taken : {W : Type 0} (contents : W → Option (List ℕ)) (form : Trace) (objects : List Data)
    (first now : WatchedWriter W) (caps : Caps) (capacity : ℕ) (actions : List Action) (count : ℕ) (last : Running)
    (tickets : List Ticket) (page : List ℕ × List Own)
    → IsWalkTo (IsTakenFrom form objects (HasTakenNamed contents form first now)) caps capacity (take count actions)
    count
    last tickets page
    → IsStoppedAt (HasTakenFirst contents form objects first now) caps capacity actions
stopped_taken contents form objects first now caps capacity actions count last tickets page h = record {
  count = count;
  now = last;
  tickets = tickets;
  walk = other_page (IsTakenFrom form objects (HasTakenNamed contents form first now))
      (λ steps (_ : ⊤). HasTakenFirst contents form objects first now steps) caps capacity (take count actions) count
      last
      tickets page tt (λ steps made. (made.0, made.2.rest, made.2.split, made.1)) h;
}

-- a walk over all actions
pub stopped_whole : {W : Type 0} (contents : W → Option (List ℕ)) (form : Trace) (objects : List Data)
    (first now : WatchedWriter W) (caps : Caps) (capacity : ℕ) (actions : List Action) (last : Running)
    (tickets : List Ticket) (page : List ℕ × List Own)
    → IsWalkTo (IsTakenFrom form objects (HasTakenNamed contents form first now)) caps capacity actions (length actions)
    last tickets page
    → IsStoppedAt (HasTakenFirst contents form objects first now) caps capacity actions
stopped_whole contents form objects first now caps capacity actions last tickets page h =
    stopped_taken contents form objects first now caps capacity actions (length actions) last tickets page
    (subst (λ a. IsWalkTo (IsTakenFrom form objects (HasTakenNamed contents form first now)) caps capacity a
    (length actions) last tickets page) (sym (take_all (length actions) actions (omega arith))) h)

-- the device is opened by the head of the bytes, and the text has lines of the first steps of a walk that stopped
lines_of_walk : (is_so : List Visit → Type 0) (form : Trace) (bytes : List ℕ) (caps : Caps) (capacity : ℕ)
    (objects : List Data) (all : List Action) (text : List ℕ) → IsOpened bytes caps capacity objects all
    → (h : IsStoppedAt is_so caps capacity all)
    → with_names objects (AreFirstNamedLines form) (visits caps capacity [] h.walk.records) h.now text
    → AreNamedLinesOfStart form bytes text
lines_of_walk is_so form bytes caps capacity objects all text opening h so =
    let are_lines = with_names objects (AreFirstNamedLines form) in
    record {
      caps = caps;
      capacity = capacity;
      objects = objects;
      actions = all;
      count = h.count;
      head = opening.head;
      asked = opening.asked;
      opening = opening.opening;
      of_run = text_of_run (λ made (_ : ⊤). are_lines made h.now text) are_lines caps capacity (take h.count all)
          h.count h.now h.tickets tt text
          (with_page (λ made (_ : ⊤). is_so made) (λ made (_ : ⊤). are_lines made h.now text) caps capacity
          (take h.count all) h.count h.now h.tickets tt tt h.walk so)
          (λ made is. is);
    }

-- so where lines were taken
pub lines_of_stop : {W : Type 0} (contents : W → Option (List ℕ)) (form : Trace) (first now : WatchedWriter W)
    (bytes : List ℕ) (caps : Caps) (capacity : ℕ) (objects : List Data) (all : List Action)
    → IsOpened bytes caps capacity objects all
    → IsStoppedAt (HasTakenFirst contents form objects first now) caps capacity all
    → IsTextAdded (AreNamedLinesOfStart form bytes) (watched_contents contents first) (watched_contents contents now)
lines_of_stop contents form first now bytes caps capacity objects all opening h =
    let taken = h.walk.made.0 in (
      flat_map (named_trace_line form) taken,
      lines_of_walk (HasTakenFirst contents form objects first now) form bytes caps capacity objects all _ opening h (
        length taken,
        ap (flat_map (named_trace_line form))
            (sym (ap (take (length taken)) h.walk.made.2 ∙ take-append_seam taken h.walk.made.1)),
      ),
      h.walk.made.3.lines,
    )

-- and where the writer refused some
pub cut_of_stop : {W : Type 0} (contents : W → Option (List ℕ)) (form : Trace) (first now : WatchedWriter W)
    (bytes : List ℕ) (caps : Caps) (capacity : ℕ) (objects : List Data) (all : List Action)
    → IsOpened bytes caps capacity objects all
    → IsStoppedAt (HasRefusedNamed contents form objects first now) caps capacity all
    → IsTextCut (AreNamedLinesOfStart form bytes) (watched_contents contents first) (watched_contents contents now)
cut_of_stop contents form first now bytes caps capacity objects all opening h =
    let named = named_visits objects [] (visits caps capacity [] h.walk.records) in (
      flat_map (named_trace_line form) named,
      lines_of_walk (HasRefusedNamed contents form objects first now) form bytes caps capacity objects all _ opening h
          (length named, ap (flat_map (named_trace_line form)) (sym (take_all (length named) named (omega arith)))),
      h.walk.made.lines,
    )

-- what was made of all steps
pub trace_of_rest : {W : Type 0} (contents : W → Option (List ℕ)) (form : Trace) (first now : WatchedWriter W)
    (bytes : List ℕ) (caps : Caps) (capacity : ℕ) (objects : List Data) (all : List Action) (count : ℕ) (last : Running)
    (tickets : List Ticket) (page : List ℕ × List Own) (text : List ℕ) → IsOpened bytes caps capacity objects all
    → IsWalkTo (IsTakenFrom form objects (HasTakenNamed contents form first now)) caps capacity all count last tickets
    page
    → ((rest : List NamedVisit) → page.0 ≡ flat_map (named_trace_line form) rest → IsNamedTraceOf form rest last text)
    → (taken : List NamedVisit) × HasTakenNamed contents form first now taken
    × IsNamedTrace form bytes (flat_map (named_trace_line form) taken ++ text)
trace_of_rest contents form first now bytes caps capacity objects all count last tickets page text opening h ends =
    let taken = h.made.0 in
    let rest = h.made.2.rest in
    let whole = flat_map (named_trace_line form) taken ++ text in
    let so : with_names objects (IsNamedTraceOf form) (visits caps capacity [] h.records) last whole =
    lines_before (named_trace_line form) taken rest text (held_lines form last.caps last.state)
    (ends rest h.made.2.lines)
    ∙ ap (λ l. flat_map (named_trace_line form) l ++ held_lines form last.caps last.state) (sym h.made.2.split) in (
      taken,
      h.made.1,
      record {
        caps = caps;
        capacity = capacity;
        objects = objects;
        head = opening.head;
        made = record {
          caps = caps;
          capacity = capacity;
          actions = all;
          document = record { steps = objects; head = opening.head; asked = opening.asked };
          opening = opening.opening;
          of_run = text_of_run (λ steps (_ : ⊤). with_names objects (IsNamedTraceOf form) steps last whole)
              (with_names objects (IsNamedTraceOf form)) caps capacity all count last tickets tt whole
              (with_page (IsTakenFrom form objects (HasTakenNamed contents form first now))
              (λ steps (_ : ⊤). with_names objects (IsNamedTraceOf form) steps last whole) caps capacity all count last
              tickets page tt h so)
              (λ steps is. is);
        };
      },
    )

-- what a call did that wants memory, or whose writer refused
pub trace_memory : {T W : Type 0} (contents : W → Option (List ℕ)) (form : Trace) (first now : WatchedWriter W)
    (taken : List NamedVisit) → HasTakenNamed contents form first now taken → IsWrittenFor {T = T} (Err OutOfMemory)
    first now
trace_memory contents form first now taken h =
    record { same = h.same; refused = (λ e. absurd cc, tt, λ other. h.refused) }

-- and one that went on with a writer that took lines
pub trace_behind : {T W : Type 0} (contents : W → Option (List ℕ)) (form : Trace) (first mid now : WatchedWriter W)
    (taken : List NamedVisit) (r : Result T ScenarioFault) → HasTakenNamed contents form first mid taken
    → IsWrittenFor r mid now → IsWrittenFor r first now
trace_behind contents form first mid now taken (Ok x) h w =
    record { same = w.same ∙ h.same; refused = (λ e. absurd cc, w.refused.1 ∙ h.refused, tt) }
trace_behind contents form first mid now taken (Err e) h w =
    record { same = w.same ∙ h.same; refused = (w.refused.0, tt, λ other. w.refused.2 other ∙ h.refused) }

-- what a walk did that stopped
pub trace_stopped : {T W : Type 0} (contents : W → Option (List ℕ)) (form : Trace) (first now : WatchedWriter W)
    (caps : Caps) (capacity : ℕ) (objects : List Data) (all : List Action) (e : ScenarioFault)
    → (e ≡ OutOfMemory) ⊎ (e ≡ Write)
    → (e ≡ Write → IsStoppedAt (HasRefusedNamed contents form objects first now) caps capacity all)
    × (e ≢ Write → IsStoppedAt (HasTakenFirst contents form objects first now) caps capacity all)
    → IsWrittenFor {T = T} (Err e) first now
trace_stopped contents form first now caps capacity objects all e why stopped =
    elim why [
      | inl memory ↦
          let made = (stopped.1 (λ refused. absurd cc)).walk.made in
          rw memory (trace_memory contents form first now made.0 made.3)
      | inr refused ↦
          let made = (stopped.0 refused).walk.made in
          rw refused (record { same = made.same; refused = (λ e. made.refused, tt, λ other. absurd (other refl)) })
    ]

-- the first that is no step object is a fault of the head
pub bad_head : (caps : Caps) (capacity : ℕ) (objects : List Data) (e : ScenarioFault) → IsFirstBad objects e
    → IsFaultOfHead caps capacity objects e
bad_head caps capacity objects (BadStep i) bad = bad
bad_head caps capacity objects _ bad = absurd bad
