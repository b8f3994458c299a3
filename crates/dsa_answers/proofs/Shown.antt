-- What a step of an engine or of a client shows, where each cell is 0.
use Rattle.std.proofs.Common.{◌≡◌, ℕ, Bool, true, false, not, cond, ◌&&◌, List, [], ◌∷◌, map, Option, Some, None}
use Rattle.std.proofs.{Common.{refl, sym, ap, ◌∙◌, length}, lemmas.{List.{length-map}, Simd.{map-map}, Option.{slice_get-map}}}
use Rattle.std.specs.{Prelude.{find, option_map, slice_get, slice_set, ◌==◌, nat_le, ⊤}}
use Rattle.dsa_base.specs.{Rows.{passes, first_row_or}}
use Rattle.dsa_base.proofs.Lists.{In-find}
use Rattle.dsa_desc.specs.{Descriptor.{is_fenced}, declared.{Descriptor.{Descriptor}, Outcome.{Outcome}}}
use Rattle.dsa_regs.specs.{Config.{queue_at}}
use Rattle.dsa_store.specs.{declared.entry.{Cell.{Cell}, Entry.{Entry}}}
use Rattle.dsa_store.specs.Content.{HeldEntry, Content, chain, after_push, without_front, only_where}
use Rattle.dsa_store.specs.Content.{after_unlink}
use Rattle.dsa_book.specs.declared.answer.DispatchAnswer.{TheVariants.{Idle}}
use Rattle.dsa_book.specs.declared.answer.FetchAnswer.{TheVariants.{NoBatch, AllFetched}}
use Rattle.dsa_book.specs.declared.answer.FinishAnswer.{FinishAnswer, TheVariants.{Done, NotReady, Gone}}
use Rattle.dsa_book.specs.declared.answer.StartAnswer.{StartAnswer, TheVariants.{Started, FenceWait, NoBuffers, Abandoned, Nothing}}
use Rattle.dsa_book.specs.declared.answer.SubmitAnswer.{SubmitAnswer}
use Rattle.dsa_book.specs.declared.answer.{Cause.{Cause, TheVariants.{AtLimit, NotEnabled, WrongKind}}, Ticket.{Ticket}}
use Rattle.dsa_book.specs.declared.answer.Reply.{Reply, TheVariants.{Submit, Dispatch, Fetch, Start, Finish}}
use Rattle.dsa_book.specs.declared.event.{Kind.{Kind, TheVariants.{Enqcmd, Movdir64b}}, Portal.{Portal}}
use Rattle.dsa_book.specs.declared.note.BatchNote.{BatchNote}
use Rattle.dsa_book.specs.{Choice.{Choice, nothing, in_cell, from_queue}, State.{Intake, Work, State, ticket_of_entry}}
use Rattle.dsa_book.specs.State.{occupancy, need_of}
use Rattle.dsa_book.specs.Submit.{submit, submit_table, after_refusal, after_accept, limit_of}
use Rattle.dsa_book.specs.Work.{dispatch, dispatch_of, after_take, as_running, front_of, progress_list, member_list}
use Rattle.dsa_book.specs.Work.{fetch, fetch_for, fetch_of, after_fetch, batch_on, note_at, is_all_fetched, members}
use Rattle.dsa_book.specs.Work.{start, start_of, start_table, after_start, after_abandon, with_first_run, first_waiting}
use Rattle.dsa_book.specs.Work.{with_running_entry, has_failed_member, has_room, is_front, finish, finish_of, running_on}
use Rattle.dsa_book.specs.Work.{must_wait, last_status, note_after, with_note, after_end}
use Rattle.dsa_laws.specs.WellFormed.{CellsOnce, NamesOnce}
use Rattle.dsa_answers.specs.Alike.{without_cell, IsTicketIn}
use Rattle.dsa_answers.proofs.{Named.{front-by_order, unlinked-by_name, found-by_name, In-running}}
use Rattle.dsa_answers.proofs.Bare.{bare, bare_content, bare-twice, set-bare, push-bare, without_front-bare, kept-bare, find-map}
use Rattle.dsa_answers.proofs.Bare.{chain-bare}
use Rattle.dsa_answers.proofs.BareWork.{bare_work, members-bare, running-bare, room-bare, front-bare, batch-bare, waiting-bare}
use Rattle.dsa_answers.proofs.BareWork.{must_wait-bare}

-- ---- two tables

-- the same tests, and rows that show the same
abbrev pub RowsAgree : {X Y Z : Type 0} → (X → Z) → (Y → Z) → List (Bool × X) → List (Bool × Y) → Type 0
RowsAgree f g [] [] = ⊤
RowsAgree f g [] (row ∷ rows) = ⊥
RowsAgree f g (row ∷ rows) [] = ⊥
RowsAgree f g (row ∷ rows) (other ∷ others) =
    (row.0 ≡ other.0) × (f row.1 ≡ g other.1) × RowsAgree f g rows others

pub tables-agree : {X Y Z : Type 0} (f : X → Z) (g : Y → Z) (rows : List (Bool × X)) (others : List (Bool × Y))
    (x : X) (y : Y)
    → RowsAgree f g rows others → f x ≡ g y → f (first_row_or rows x) ≡ g (first_row_or others y)
tables-agree f g [] [] x y h last = last
tables-agree f g [] (row ∷ rows) x y h last = absurd h
tables-agree f g (row ∷ rows) [] x y h last = absurd h
tables-agree f g ((true, r) ∷ rows) ((true, s) ∷ others) x y h last = h.1
tables-agree f g ((true, r) ∷ rows) ((false, s) ∷ others) x y h last = let e = h.0 in absurd cc
tables-agree f g ((false, r) ∷ rows) ((true, s) ∷ others) x y h last = let e = h.0 in absurd cc
tables-agree f g ((false, r) ∷ rows) ((false, s) ∷ others) x y h last = tables-agree f g rows others x y h.2 last

-- ---- what is shown of an answer and of what it leaves

abbrev pub shown : {A : Type 0} → (A → Reply) → A × Work → Reply × Work
shown reply r = (without_cell (reply r.0), bare_work r.1)

-- the same work with other entries shows the same, where these do
abbrev pub with_content : Work → Content → Work
with_content w content = record w { content = content }

pub shown-content : (w : Work) (c d : Content) → bare_content c ≡ bare_content d
    → bare_work (with_content w c) ≡ bare_work (with_content w d)
shown-content w c d e = ap (λ content. let v : Work = record w { content = content; fates = [] } in v) e

pub shown-same : {A : Type 0} (reply : A → Reply) (a : A) (w : Work) → shown reply (a, w) ≡ shown reply (a, bare_work w)
shown-same reply a w = ap (λ content. let r : Reply × Work = (
  without_cell (reply a),
  record w { content = content; fates = [] },
) in r) (sym (bare-twice w.content))

-- what changes contents alike for each cell
pub settled : (f g h : Content → Content) → ((c : Content) → bare_content (f c) ≡ h (bare_content c))
    → ((c : Content) → bare_content (g c) ≡ h (bare_content c)) → (c : Content)
    → bare_content (f c) ≡ bare_content (g (bare_content c))
settled f g h p q c = p c ∙ ap h (sym (bare-twice c)) ∙ sym (q (bare_content c))

pushed : (i : ℕ) (cell other : Cell) (e : Entry) (c : Content)
    → bare_content (after_push c i cell e) ≡ bare_content (after_push (bare_content c) i other e)
pushed i cell other e = settled (λ c. after_push c i cell e) (λ c. after_push c i other e)
    (λ c. after_push c i (record { 0 = 0 }) e) (λ c. push-bare c i cell e) (λ c. push-bare c i other e)

moved : (i j : ℕ) (cell other : Cell) (e : Entry) (c : Content)
    → bare_content (after_push (without_front c i) j cell e)
    ≡ bare_content (after_push (without_front (bare_content c) i) j other e)
moved i j cell other e = settled (λ c. after_push (without_front c i) j cell e)
    (λ c. after_push (without_front c i) j other e)
    (λ c. after_push (without_front c i) j (record { 0 = 0 }) e)
    (λ c. push-bare (without_front c i) j cell e
    ∙ ap (λ d. after_push d j (record { 0 = 0 }) e) (without_front-bare c i))
    (λ c. push-bare (without_front c i) j other e
    ∙ ap (λ d. after_push d j (record { 0 = 0 }) e) (without_front-bare c i))

pub kept : (test : Entry → Bool) (c : Content)
    → bare_content (only_where test c) ≡ bare_content (only_where test (bare_content c))
kept test = settled (only_where test) (only_where test) (only_where test) (kept-bare test) (kept-bare test)

-- ---- submit

-- a submission's work
abbrev pub entered : Work → SubmitAnswer × Intake → SubmitAnswer × Work
entered w r = (r.0, record w { setup = r.1.setup; content = r.1.content })

abbrev intake : Work → Intake
intake w = record { setup = w.setup; content = w.content }

refused : (w : Work) (q : ℕ) (kind : Kind) (cause : Cause)
    → shown Submit (entered w (after_refusal (intake w) q kind cause))
    ≡ shown Submit (entered (bare_work w) (after_refusal (intake (bare_work w)) q kind cause))
refused w q (Enqcmd pasid) cause =
    ap (λ v. (without_cell (Submit (after_refusal (intake w) q (Enqcmd pasid) cause).0), v))
    (shown-content w w.content (bare_content w.content) (sym (bare-twice w.content)))
refused w q Movdir64b cause = ap (λ v. (without_cell (Submit (after_refusal (intake w) q Movdir64b cause).0), v))
    (shown-content (record w { setup = (after_refusal (intake w) q Movdir64b cause).1.setup }) w.content
    (bare_content w.content) (sym (bare-twice w.content)))

occupancy-bare : (w : Work) (q : ℕ) → occupancy w.content q ≡ occupancy (bare_work w).content q
occupancy-bare w q = sym (ap length (chain-bare w.content q) ∙ length-map (chain w.content q) bare)

pub submits : (w : Work) (q : ℕ) (portal : Portal) (kind : Kind) (d : Descriptor) (cell other : Cell)
    → shown Submit (entered w (submit (intake w) q portal kind d cell))
    ≡ shown Submit (entered (bare_work w) (submit (intake (bare_work w)) q portal kind d other))
submits w q portal kind d cell other =
    tables-agree (λ r. shown Submit (entered w r)) (λ r. shown Submit (entered (bare_work w) r))
    (submit_table (intake w) q portal kind) (submit_table (intake (bare_work w)) q portal kind)
    (after_accept (intake w) q kind d cell) (after_accept (intake (bare_work w)) q kind d other) (
      refl,
      refused w q kind NotEnabled,
      (
        refl,
        refused w q kind WrongKind,
        (ap (nat_le (limit_of (queue_at w.setup.configs q) portal)) (occupancy-bare w q), refused w q kind AtLimit, tt),
      ),
    )
    (ap (λ v. (without_cell (Submit (after_accept (intake w) q kind d cell).0), v))
    (ap (λ content. let v : Work = record w {
      setup = (after_accept (intake w) q kind d cell).1.setup;
      content = content;
      fates = [];
    } in v) (pushed q cell other _ w.content)))

-- ---- dispatch

takes : (w : Work) (e q : ℕ) (o : Option HeldEntry)
    → shown Dispatch (dispatch_of w e q o) ≡ shown Dispatch (dispatch_of (bare_work w) e q (option_map bare o))
takes w e q None = shown-same Dispatch Idle w
takes w e q (Some front) = ap (λ v. (without_cell (Dispatch (dispatch_of w e q (Some front)).0), v))
    (shown-content (after_take w e q front) _ _
    (moved q (progress_list w.setup e) front.0 (bare front).0 (as_running front.1) w.content))

pub dispatches : (w : Work) (e : ℕ) (choice : Choice)
    → shown Dispatch (dispatch w e choice) ≡ shown Dispatch (dispatch (bare_work w) e choice)
dispatches w e (from_queue q) = takes w e q (front_of w q)
    ∙ ap (λ o. shown Dispatch (dispatch_of (bare_work w) e q o)) (sym (front-bare w q))
dispatches w e nothing = shown-same Dispatch Idle w
dispatches w e (in_cell cell) = shown-same Dispatch Idle w

-- ---- fetch

fetches-of : (w : Work) (e : ℕ) (d : Descriptor) (cell other : Cell) (note : BatchNote) (o : Option HeldEntry)
    → shown Fetch (fetch_of w e d cell note o) ≡ shown Fetch (fetch_of (bare_work w) e d other note (option_map bare o))
fetches-of w e d cell other note None = shown-same Fetch NoBatch w
fetches-of w e d cell other note (Some batch) =
    tables-agree (shown Fetch) (shown Fetch) ((is_all_fetched note, (AllFetched, w)) ∷ [])
    ((is_all_fetched note, (AllFetched, bare_work w)) ∷ [])
    (after_fetch w e d cell note batch.1) (after_fetch (bare_work w) e d other note batch.1)
    (refl, shown-same Fetch AllFetched w, tt)
    (ap (λ v. (without_cell (Fetch (after_fetch w e d cell note batch.1).0), v))
    (shown-content (after_fetch w e d cell note batch.1).1 _ _
    (pushed (member_list w.setup e) cell other _ w.content)))

fetches-for : (w : Work) (e : ℕ) (d : Descriptor) (cell other : Cell) (o : Option BatchNote)
    → shown Fetch (fetch_for w e d cell o) ≡ shown Fetch (fetch_for (bare_work w) e d other o)
fetches-for w e d cell other None = shown-same Fetch NoBatch w
fetches-for w e d cell other (Some note) = fetches-of w e d cell other note (batch_on w e note)
    ∙ ap (λ o. shown Fetch (fetch_of (bare_work w) e d other note o)) (sym (batch-bare w e note))

pub fetches : (w : Work) (e : ℕ) (d : Descriptor) (cell other : Cell)
    → shown Fetch (fetch w e d cell) ≡ shown Fetch (fetch (bare_work w) e d other)
fetches w e d cell other = fetches-for w e d cell other (note_at w e)

-- ---- start

-- the same, where the first that does not run is told by its place
abbrev pub start_in_order_of : Work → ℕ → Option HeldEntry → StartAnswer × Work
start_in_order_of w e None = (Nothing, w)
start_in_order_of w e (Some pair) = first_row_or (
    (is_fenced pair.1.desc && not (passes (λ x. not x.1.running) (slice_get (members w e) 0)), (FenceWait, w))
    ∷ (is_fenced pair.1.desc && has_failed_member w e, (Abandoned (length (members w e)), after_abandon w e))
    ∷ (not (has_room w e (need_of w.setup pair.1)), (NoBuffers, w))
    ∷ []
    ) (Started (ticket_of_entry pair), after_start w e)

abbrev pub start_in_order : Work → ℕ → StartAnswer × Work
start_in_order w e = start_in_order_of w e (first_waiting w e)

run-bare : (l : List HeldEntry) → with_first_run (map bare l) ≡ map bare (with_first_run l)
run-bare [] = refl
run-bare (x ∷ l) = rw (run-bare l) (go x.1.running)
  where
    go : (b : Bool) → cond b (bare x ∷ map bare (with_first_run l)) (with_running_entry (bare x) ∷ map bare l)
        ≡ map bare (cond b (x ∷ with_first_run l) (with_running_entry x ∷ l))
    go true = refl
    go false = refl

put : (c : Content) (i : ℕ) (l m : List HeldEntry) → m ≡ map bare l
    → bare_content (slice_set c i l) ≡ bare_content (slice_set (bare_content c) i m)
put c i l m e = set-bare c i l ∙ ap (λ d. slice_set d i (map bare l)) (sym (bare-twice c))
    ∙ ap (slice_set (bare_content (bare_content c)) i) (sym (ap (map bare) e ∙ map-map bare bare l))
    ∙ sym (set-bare (bare_content c) i m)

front-order : (w : Work) (e : ℕ) → passes (λ x. not x.1.running) (slice_get (members w e) 0)
    ≡ passes (λ x. not x.1.running) (slice_get (members (bare_work w) e) 0)
front-order w e = sym (ap (λ (l : List HeldEntry). passes (λ x. not x.1.running) (slice_get l 0)) (members-bare w e)
    ∙ ap (passes (λ x. not x.1.running)) (slice_get-map bare (members w e) 0) ∙ go (slice_get (members w e) 0))
  where
    go : (o : Option HeldEntry) → passes (λ x. not x.1.running) (option_map bare o) ≡ passes (λ x. not x.1.running) o
    go None = refl
    go (Some x) = refl

members-counted : (w : Work) (e : ℕ) → length (members w e) ≡ length (members (bare_work w) e)
members-counted w e = sym (ap length (members-bare w e) ∙ length-map (members w e) bare)

starts-of : (w : Work) (e : ℕ) (o : Option HeldEntry)
    → ((pair : HeldEntry) → o ≡ Some pair
    → is_front w e pair ≡ passes (λ x. not x.1.running) (slice_get (members w e) 0))
    → shown Start (start_of w e o) ≡ shown Start (start_in_order_of (bare_work w) e (option_map bare o))
starts-of w e None front = shown-same Start Nothing w
starts-of w e (Some pair) front =
    tables-agree (shown Start) (shown Start) (start_table w e pair)
    ((
      is_fenced pair.1.desc && not (passes (λ x. not x.1.running) (slice_get (members (bare_work w) e) 0)),
      (FenceWait, bare_work w),
    )
    ∷ (
      is_fenced pair.1.desc && has_failed_member w e,
      (Abandoned (length (members (bare_work w) e)), after_abandon (bare_work w) e),
    )
    ∷ (not (has_room (bare_work w) e (need_of w.setup pair.1)), (NoBuffers, bare_work w))
    ∷ []
    )
    (Started (ticket_of_entry pair), after_start w e)
    (Started (ticket_of_entry (bare pair)), after_start (bare_work w) e) (
      ap (λ b. is_fenced pair.1.desc && not b) (front pair refl ∙ front-order w e),
      shown-same Start FenceWait w,
      (
        refl,
        λ i. (
          Start (Abandoned (members-counted w e i)),
          shown-content (after_abandon w e) _ _ (put w.content (member_list w.setup e) [] [] refl) i,
        ),
        (ap not (sym (room-bare w e (need_of w.setup pair.1))), shown-same Start NoBuffers w, tt),
      ),
    )
    (ap (λ v. (without_cell (Start (Started (ticket_of_entry pair))), v))
    (shown-content w _ _ (put w.content (member_list w.setup e) (with_first_run (members w e))
    (with_first_run (members (bare_work w) e)) (ap with_first_run (members-bare w e) ∙ run-bare (members w e)))))

pub starts : {caps : _} (w : Work) (e : ℕ) → CellsOnce caps w
    → shown Start (start w e) ≡ shown Start (start_in_order (bare_work w) e)
starts w e cells = starts-of w e (first_waiting w e) (λ pair is. front-by_order w e pair cells is)
    ∙ ap (λ o. shown Start (start_in_order_of (bare_work w) e o)) (sym (waiting-bare w e))

-- ---- finish

-- the same, where the entry is told by its name
abbrev pub after_end_by_name : Work → ℕ → HeldEntry → Outcome → Work
after_end_by_name w e pair outcome = record w {
  content = only_where (λ entry. not (entry.name == pair.1.name)) w.content;
  notes = with_note w.notes e (note_after w e pair outcome);
}

abbrev pub finish_by_name_of : Work → ℕ → Outcome → Option HeldEntry → FinishAnswer × Work
finish_by_name_of w e outcome None = (Gone, w)
finish_by_name_of w e outcome (Some pair) = first_row_or ((must_wait w e pair.1, (NotReady, w)) ∷ [])
    (Done (last_status w e pair outcome), after_end_by_name w e pair outcome)

abbrev pub finish_by_name : Work → ℕ → ℕ → Outcome → FinishAnswer × Work
finish_by_name w e name outcome =
    finish_by_name_of w e outcome (find (λ pair. pair.1.name == name) (running_on w e))

ends-of : (w : Work) (e : ℕ) (outcome : Outcome) (o : Option HeldEntry)
    → ((pair : HeldEntry) → o ≡ Some pair
    → after_unlink w.content pair.0 ≡ only_where (λ entry. not (entry.name == pair.1.name)) w.content)
    → shown Finish (finish_of w e outcome o)
    ≡ shown Finish (finish_by_name_of (bare_work w) e outcome (option_map bare o))
ends-of w e outcome None named = shown-same Finish Gone w
ends-of w e outcome (Some pair) named =
    tables-agree (shown Finish) (shown Finish) ((must_wait w e pair.1, (NotReady, w)) ∷ [])
    ((must_wait (bare_work w) e pair.1, (NotReady, bare_work w)) ∷ [])
    (Done (last_status w e pair outcome), after_end w e pair outcome)
    (Done (last_status w e pair outcome), after_end_by_name (bare_work w) e (bare pair) outcome)
    (sym (must_wait-bare w e pair.1), shown-same Finish NotReady w, tt)
    (ap (λ v. (without_cell (Finish (Done (last_status w e pair outcome))), v))
    (shown-content (after_end w e pair outcome) _ _ (ap bare_content (named pair refl)
    ∙ kept (λ entry. not (entry.name == pair.1.name)) w.content)))

pub finishes : {caps : _} (s : State) (e : ℕ) (ticket : Ticket) (outcome : Outcome) → CellsOnce caps s.work
    → NamesOnce s.work → IsTicketIn s ticket
    → shown Finish (finish s.work e ticket outcome)
    ≡ shown Finish (finish_by_name (bare_work s.work) e ticket.name outcome)
finishes s e ticket outcome cells names is =
    let named : HeldEntry → Bool = λ pair. pair.1.name == ticket.name in
    let w = s.work in
    ap (λ o. shown Finish (finish_of w e outcome o)) (found-by_name s ticket e is)
    ∙ ends-of w e outcome (find named (running_on w e))
    (λ pair found. unlinked-by_name w pair cells names
    (In-running w e pair (In-find named pair (running_on w e) found).0))
    ∙ ap (λ o. shown Finish (finish_by_name_of (bare_work w) e outcome o))
    (sym (ap (find named) (running-bare w e) ∙ find-map bare named (running_on w e)))
