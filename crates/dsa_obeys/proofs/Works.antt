-- An engine's line is a move, or the engine asked in vain.
use Rattle.dsa_book.specs.declared.answer.Reply.TheVariants as reply
use Rattle.dsa_parties.specs.declared.places.Move.TheVariants as moves
use Rattle.std.proofs.Common.{◌≡◌, ℕ, ◌+◌, ◌<◌, ◌==◌, Bool, true, false, cond, not, ◌&&◌, List, [], ◌∷◌, ◌++◌}
use Rattle.std.proofs.Common.{length, find, slice_get, Option, Some, None, refl, sym, ap, ◌∙◌, subst, inl, inr}
use Rattle.std.proofs.Common.{◌⊎◌, ⊎_elim, arith, eq-eqb, get_or, unwrap_or}
use Rattle.std.specs.{Prelude.{option_map, option_and_then}}
use Rattle.std.proofs.lemmas.{Bool.{and_parts, and_from, eqb-true, lt-ltb, not_from_false}}
use Rattle.std.proofs.lemmas.Bool.{false_from_ne_true, not-true}
use Rattle.std.proofs.{lemmas.{Option.{same_Some}}, Math.ListN.{get_or-map}}
use Rattle.dsa_base.{specs.{Lists.{In}, Rows.{passes, when}}, proofs.{Lists.{In-find, In-filter, In-append}}}
use Rattle.dsa_base.proofs.Tables.{not-both, one_row}
use Rattle.dsa_desc.specs.declared.{Descriptor.{Descriptor}, Outcome.{Outcome, TheVariants.{Success, PageFault}}}
use Rattle.dsa_regs.specs.declared.Caps.{Caps}
use Rattle.dsa_store.specs.{declared.entry.Cell.{Cell}, Content.{HeldEntry, all_held, is_cell}}
use Rattle.dsa_book.specs.declared.answer.{Reply.{Reply}, Ticket.{Ticket}, FinishAnswer.{FinishAnswer}}
use Rattle.dsa_book.specs.declared.answer.FetchAnswer.TheVariants.{Fetched, NoBatch, AllFetched, Full}
use Rattle.dsa_book.specs.declared.answer.FinishAnswer.TheVariants.{Done, NotReady}
use Rattle.dsa_book.specs.declared.event.{Event.{Event}}
use Rattle.dsa_book.specs.declared.event.Event.TheVariants.{Submit, Dispatch, Fetch, Start, Finish, Issue, Poll}
use Rattle.dsa_book.specs.declared.event.Event.TheVariants.{WriteQueue, WriteGroup, ClearError}
use Rattle.dsa_book.specs.declared.{note.BatchNote.{BatchNote}, answer.FetchAnswer.{FetchAnswer}}
use Rattle.dsa_book.specs.State.{Work, State, ticket_of_entry, is_ticket}
use Rattle.dsa_book.specs.Work.{note_at, in_progress, members, member_list, running_on, batch_on, is_all_fetched}
use Rattle.dsa_book.specs.Work.{after_fetch, fetch, fetch_of, fetch_for, finish_of, must_wait, last_status, after_end}
use Rattle.dsa_book.specs.Machine.{next, is_full_reply}
use Rattle.dsa_book.specs.{Choice.{choice_of, chosen_cell}, Totals.{is_fetched}}
use Rattle.dsa_book.proofs.{Gains.{named_by}, EqualSteps.{same-event}}
use Rattle.dsa_laws.proofs.{Shapes.{In-cond}, Contents.{In-chain}}
use Rattle.dsa_keys.specs.{Labels.{labelled_note}, Key.{key}}
use Rattle.dsa_keys.specs.{Parties.{Offer, World, labels_for, offer_at}, Steps.{event_by_label}}
use Rattle.dsa_keys.proofs.{Known.{IsKnown, known}, SameSteps.{named-other}, Engines.{progress-in}}
use Rattle.dsa_parties.specs.declared.places.NextMember.{NextMember}
use Rattle.dsa_parties.specs.declared.places.Move.{Move}
use Rattle.dsa_parties.specs.declared.script.{Script.{Script}, ScriptEntry.{ScriptEntry}}
use Rattle.dsa_parties.specs.declared.script.Outcomes.{Outcomes, TheVariants.{SuccessAlone, PageFaultAlone, Both}}
use Rattle.dsa_parties.specs.Scripts.{member_count, member_label, is_member_at}
use Rattle.dsa_parties.specs.Standing.{Standing, standing_after}
use Rattle.dsa_parties.specs.Offers.{bare_offer, may_give, allows, next_member, label_ticket, parties_of}
use Rattle.dsa_parties.proofs.Fits.{passing, is-fetched, placed}
use Rattle.dsa_parties.proofs.{Stands.{fits}, Worlds.{note-named}}
use Rattle.dsa_obeys.specs.Obeys.{fetches, works, LogLine, number_of, is_by_client}
use Rattle.dsa_obeys.specs.Obeys.{is_by_administrator, is_event, takes_part, entry_named, fits_outcome, may_end}
use Rattle.dsa_obeys.specs.Obeys.{is_next_of, is_fetch_of, is_work}
use Rattle.dsa_obeys.specs.Walks.{is_in_vain, doer_of}
use Rattle.dsa_obeys.proofs.{Lines.{said}}
use Rattle.dsa_obeys.proofs.Stands.{StandsAt, IsMade, clients-pass, administrators-pass, made-so}

-- ---- outcomes, and what is found

same-outcomes : (o : Outcomes) (outcome : Outcome) → fits_outcome o outcome ≡ allows o outcome
same-outcomes SuccessAlone Success = refl
same-outcomes SuccessAlone PageFault = refl
same-outcomes PageFaultAlone Success = refl
same-outcomes PageFaultAlone PageFault = refl
same-outcomes Both outcome = refl

pub gives-same : (o : Option ScriptEntry) (outcome : Outcome)
    → passes (λ (entry : ScriptEntry). fits_outcome entry.outcomes outcome) o
    ≡ passes (λ (entry : ScriptEntry). allows entry.outcomes outcome) o
gives-same None outcome = refl
gives-same (Some entry) outcome = same-outcomes entry.outcomes outcome

-- the one that passes is found
find-one : {X : Type 0} (p : X → Bool) (x : X) (xs : List X) → In x xs → p x ≡ true
    → ((y : X) → In y xs → p y ≡ true → y ≡ x) → find p xs ≡ Some x
find-one p x [] i t only = absurd i
find-one {X} p x (y ∷ ys) i t only = go (λ j. find-one p x ys j t (λ z k. only z (inr k))) (p y) refl
  where
    go : (In x ys → find p ys ≡ Some x) → (b : Bool) → p y ≡ b → cond b (Some y) (find p ys) ≡ Some x
    go further true h = ap Some (only y (inl refl) h)
    go further false h = further (⊎_elim (λ (e : y ≡ x). not-both (p x) t (ap p (sym e) ∙ h)) (λ j. j) i)

-- the ticket is the entry's
ticket-is : (ticket : Ticket) (x : HeldEntry) → is_ticket ticket x ≡ true → ticket_of_entry x ≡ ticket
ticket-is ticket x h =
    let p = and_parts (is_cell ticket.cell x) (x.1.name == ticket.name) h in
    let cell = eqb-true x.0.0 ticket.cell.0 p.0 in
    let name = eqb-true x.1.name ticket.name p.1 in
    λ i. record { cell = record { 0 = cell i }; name = name i }

-- what runs is held
pub running-in : (w : Work) (e : ℕ) (x : HeldEntry) → In x (running_on w e) → In x (all_held w.content)
running-in w e x i = ⊎_elim (progress-in w e x)
    (λ m. In-chain x w.content (member_list w.setup e) (In-cond _ x _ m).1)
    (In-append x (in_progress w e) (members w e)
    (In-filter (λ (y : HeldEntry). y.1.running) x (in_progress w e ++ members w e) i).0)

-- of a note that is through nothing is fetched
through-note : (w : Work) (e : ℕ) (desc : Descriptor) (cell : Cell) (note : BatchNote) → note_at w e ≡ Some note
    → is_all_fetched note ≡ true → is_fetched (reply.Fetch (fetch w e desc cell).0) ≡ false
through-note w e desc cell note at through =
    subst (λ o. is_fetched (reply.Fetch (fetch_for w e desc cell o).0) ≡ false) (sym at) (by-batch (batch_on w e note))
  where
    row : (b : Bool) (f : FetchAnswer × Work) → b ≡ true → is_fetched (reply.Fetch (unwrap_or
        (cond b (Some (AllFetched, w)) None) f).0) ≡ false
    row true f t = refl
    row false f t = absurd cc

    by-batch : (o : Option HeldEntry) → is_fetched (reply.Fetch (fetch_of w e desc cell note o).0) ≡ false
    by-batch None = refl
    by-batch (Some batch) = row (is_all_fetched note) (after_fetch w e desc cell note batch.1) through

abbrev is-fetch-reply : Reply → Bool
is-fetch-reply (reply.Fetch answer) = true
is-fetch-reply r = false

module _ (caps : Caps) (script : Script) (before : List LogLine) (w : World Standing) (line : LogLine)
    (rest : List LogLine) (s : State) (stand : StandsAt caps script before w (line ∷ rest))
    (step : next w.state line.step.event line.step.reply ≡ Some s)
    (answered : is_full_reply line.step.event line.step.reply ≡ false) where
  abbrev Made : Type 0
  Made = IsMade caps script before w line rest s

  abbrev Goes : Type 0
  Goes = Made ⊎ ((is_in_vain line.step.reply ≡ true) × (line.doer ≡ works))

  abbrev entries : List ScriptEntry
  entries = script.entries.items

  is-known : IsKnown w.labels w.state.work
  is-known = known caps w.labels w.state stand.world.is_labelled.well_formed stand.world.is_labelled.distinct

  step-by : (e : Event) → line.step.event ≡ e → next w.state e line.step.reply ≡ Some s
  step-by e ev = subst (λ e. next w.state e line.step.reply ≡ Some s) ev step

  -- a move of an engine moves nobody
  module _ (d : (c : ℕ) → is_by_client c line.doer ≡ false) (d' : (a : ℕ) → is_by_administrator a line.doer ≡ false)
    where
      engine-made : (move : Move) (o : Offer) → offer_at (parties_of script) w move ≡ Some o
          → event_by_label (labels_for w o) w.state o.event ≡ Some line.step.event
          → doer_of script w.places move o.label ≡ line.doer
          → (0 < named_by line.step.reply → number_of line.doer ≡ Some o.label)
          → is_in_vain line.step.reply ≡ false
          → standing_after script w.places move line.step.reply ≡ w.places → Made
      engine-made move o offers event doer about moves stays =
          made-so caps script before w line rest s stand step move o offers event doer about moves w.places stays
          (clients-pass script w.places.clients line rest d stand.clients)
          (administrators-pass script w.places.administrators line rest d' stand.administrators)

  -- ---- what brings in nothing

  module _ (d : line.doer ≡ works) where
    bare-made : (move : Move) (e : Event) → offer_at (parties_of script) w move ≡ Some (bare_offer script e)
        → event_by_label (labels_for w (bare_offer script e)) w.state e ≡ Some line.step.event
        → doer_of script w.places move (length script.entries.items) ≡ works → named_by line.step.reply ≡ 0
        → is_in_vain line.step.reply ≡ false
        → standing_after script w.places move line.step.reply ≡ w.places → Made
    bare-made move e offers event doer none moves stays =
        engine-made (λ c. ap (is_by_client c) d) (λ a. ap (is_by_administrator a) d) move (bare_offer script e) offers
        event (doer ∙ sym d) (λ l. absurd (omega (arith, l, none))) moves stays

    dispatch-made : (e : ℕ) → line.step.event ≡ Dispatch e → takes_part script e ≡ true → Made
    dispatch-made e ev part =
        bare-made (moves.Dispatch e) (Dispatch e) (ap (λ b. when b (bare_offer script (Dispatch e))) part)
        (ap Some (sym ev)) refl
        (said named_by 0 w.state s (Dispatch e) line.step.reply (step-by (Dispatch e) ev) refl)
        (said is_in_vain false w.state s (Dispatch e) line.step.reply (step-by (Dispatch e) ev) refl) refl

    start-made : (e : ℕ) → line.step.event ≡ Start e → takes_part script e ≡ true → Made
    start-made e ev part =
        bare-made (moves.Start e) (Start e) (ap (λ b. when b (bare_offer script (Start e))) part)
        (ap Some (sym ev)) refl
        (said named_by 0 w.state s (Start e) line.step.reply (step-by (Start e) ev) refl)
        (said is_in_vain false w.state s (Start e) line.step.reply (step-by (Start e) ev) refl) refl

    -- a fetch that brings in nothing
    fetch-in-vain : (e : ℕ) (desc : Descriptor) → line.step.event ≡ Fetch e desc → (r : Reply)
        → line.step.reply ≡ r → is_fetched r ≡ false → is_in_vain r ≡ true
    fetch-in-vain e desc ev (reply.Fetch (Fetched ticket)) re not_fetched = absurd cc
    fetch-in-vain e desc ev (reply.Fetch NoBatch) re not_fetched = refl
    fetch-in-vain e desc ev (reply.Fetch AllFetched) re not_fetched = refl
    fetch-in-vain e desc ev (reply.Fetch Full) re not_fetched =
        not-both (is_full_reply line.step.event line.step.reply) (λ i. is_full_reply (ev i) (re i)) answered
    fetch-in-vain e desc ev r re not_fetched = not-both (is-fetch-reply line.step.reply)
        (said is-fetch-reply true w.state s (Fetch e desc) line.step.reply (step-by (Fetch e desc) ev) refl)
        (ap is-fetch-reply re)

    -- an end
    module _ (e : ℕ) (ticket : Ticket) (outcome : Outcome) (ev : line.step.event ≡ Finish e ticket outcome)
        (part : takes_part script e ≡ true)
        (fit : unwrap_or (option_map (λ n. may_end script n outcome) (entry_named before ticket.name)) true ≡ true)
      where
        abbrev gone_or : Option HeldEntry → FinishAnswer × Work
        gone_or o = finish_of w.state.work e outcome o

        module _ (x : HeldEntry) (found : find (is_ticket ticket) (running_on w.state.work e) ≡ Some x) where
          abbrev label : ℕ
          label = w.labels x.1.name

          abbrev end : Event
          end = Finish e (label_ticket label) outcome

          runs : In x (running_on w.state.work e) × (is_ticket ticket x ≡ true)
          runs = In-find (is_ticket ticket) x (running_on w.state.work e) found

          its : ticket_of_entry x ≡ ticket
          its = ticket-is ticket x runs.1

          held : In x (all_held w.state.work.content)
          held = running-in w.state.work e x runs.0

          named : entry_named before ticket.name ≡ Some label
          named = subst (λ n. entry_named before n ≡ Some label) (ap (λ (t : Ticket). t.name) its)
              (stand.named x.1.name (is-known.below x held))

          may : may_give entries label outcome ≡ true
          may = sym (gives-same (slice_get entries label) outcome)
              ∙ sym (ap (λ o. unwrap_or (option_map (λ n. may_end script n outcome) o) true) named) ∙ fit

          old : (y : HeldEntry) → In y (running_on w.state.work e)
              → labels_for w (bare_offer script end) y.1.name ≡ w.labels y.1.name
          old y i = named-other w.labels w.state.work.setup.next_name (length script.entries.items) y.1.name
              (is-known.below y (running-in w.state.work e y i))

          by-label : find (λ (y : HeldEntry). labels_for w (bare_offer script end) y.1.name == label)
              (running_on w.state.work e) ≡ Some x
          by-label = find-one (λ (y : HeldEntry). labels_for w (bare_offer script end) y.1.name == label) x
              (running_on w.state.work e) runs.0 (eq-eqb _ _ (old x runs.0))
              (λ y i t. is-known.labels y x (running-in w.state.work e y i) held
              (sym (old y i) ∙ eqb-true _ _ t))

          moves-on : is_in_vain (reply.Finish (gone_or (find (is_ticket ticket) (running_on w.state.work e))).0) ≡ false
          moves-on = subst (λ o. is_in_vain (reply.Finish (gone_or o).0) ≡ false) (sym found)
              (one_row (λ (r : FinishAnswer × Work). is_in_vain (reply.Finish r.0) ≡ false)
              (must_wait w.state.work e x.1) (NotReady, w.state.work)
              (Done (last_status w.state.work e x outcome), after_end w.state.work e x outcome) refl refl)

          finish-made : Made
          finish-made =
              bare-made (moves.Finish e label outcome) end
              (ap (λ b. when b (bare_offer script end)) (and_from _ _ part may))
              (ap (option_map (λ (y : HeldEntry). Finish e (ticket_of_entry y) outcome)) by-label
              ∙ ap (λ t. Some (Finish e t outcome)) its ∙ ap Some (sym ev))
              refl
              (said named_by 0 w.state s (Finish e ticket outcome) line.step.reply
              (step-by (Finish e ticket outcome) ev) refl)
              (said is_in_vain false w.state s (Finish e ticket outcome) line.step.reply
              (step-by (Finish e ticket outcome) ev) moves-on)
              refl

        finish-goes : Goes
        finish-goes = go (find (is_ticket ticket) (running_on w.state.work e)) refl
          where
            go : (o : Option HeldEntry) → find (is_ticket ticket) (running_on w.state.work e) ≡ o → Goes
            go None none = inr ((
              said is_in_vain true w.state s (Finish e ticket outcome) line.step.reply
                  (step-by (Finish e ticket outcome) ev)
                  (ap (λ o. is_in_vain (reply.Finish (gone_or o).0)) none),
              d,
            ))
            go (Some x) found = inl (finish-made x found)

    work-goes : (e : Event) → line.step.event ≡ e → (r : Reply) → line.step.reply ≡ r
        → is_work script before w.state works e r ≡ true → Goes
    work-goes (Dispatch e) ev r re h = inl (dispatch-made e ev h)
    work-goes (Start e) ev r re h = inl (start-made e ev h)
    work-goes (Fetch e desc) ev r re h =
        let p = and_parts (takes_part script e) (not (is_fetched r)) h in
        inr ((ap is_in_vain re ∙ fetch-in-vain e desc ev r re (not-true (is_fetched r) p.1), d))
    work-goes (Finish e ticket outcome) ev r re h =
        let p = and_parts (takes_part script e)
        (unwrap_or (option_map (λ n. may_end script n outcome) (entry_named before ticket.name)) true) h in
        finish-goes e ticket outcome ev p.0 p.1
    work-goes (Submit client queue portal kind desc) ev r re h = absurd cc
    work-goes (Issue command) ev r re h = absurd cc
    work-goes Poll ev r re h = absurd cc
    work-goes (WriteQueue queue config) ev r re h = absurd cc
    work-goes (WriteGroup group config) ev r re h = absurd cc
    work-goes ClearError ev r re h = absurd cc

  -- ---- a member

  module _ (n : ℕ) (d : line.doer ≡ fetches n) (e : ℕ) (desc : Descriptor) (ticket : Ticket)
      (ev : line.step.event ≡ Fetch e desc) (re : line.step.reply ≡ reply.Fetch (Fetched ticket))
      (part : takes_part script e ≡ true) (note : BatchNote) (at : note_at w.state.work e ≡ Some note)
      (entry : ScriptEntry) (at_entry : slice_get entries n ≡ Some entry)
      (same : Fetch e entry.desc ≡ Fetch e desc) (batch : ℕ) (named : entry_named before note.batch ≡ Some batch)
      (member : is_member_at entries batch n ≡ true) (is : n ≡ batch + 1 + note.fetched) where
    batch-is : batch ≡ w.labels note.batch
    batch-is = same_Some batch (w.labels note.batch) (sym named ∙ stand.named note.batch
        (note-named caps w.labels w.state stand.world.is_labelled e note at))

    label-is : member_label (w.labels note.batch) note.fetched ≡ n
    label-is = omega (arith, is, batch-is)

    left : note.fetched < member_count entries (w.labels note.batch)
    left = subst (λ b. note.fetched < member_count entries b) batch-is
        (omega (arith, is, (placed entries (fits script).order batch n (is-fetched entries batch n member)).below))

    open-note : is_all_fetched note ≡ false
    open-note = false_from_ne_true (is_all_fetched note) (λ t. not-both (is_fetched line.step.reply)
        (ap is_fetched re)
        (said is_fetched false w.state s (Fetch e desc) line.step.reply (step-by (Fetch e desc) ev)
        (through-note w.state.work e desc (chosen_cell (choice_of line.step.reply)) note at t)))

    abbrev offer : Offer
    offer = record { event = Fetch e entry.desc; label = member_label (w.labels note.batch) note.fetched }

    next-is-member : next_member entries (labelled_note w.labels note)
        ≡ Some (record { label = member_label (w.labels note.batch) note.fetched; desc = entry.desc })
    next-is-member =
        ap (λ b. cond b (option_map (λ (entry : ScriptEntry). record {
          label = member_label (w.labels note.batch) note.fetched;
          desc = entry.desc;
        }) (slice_get entries (member_label (w.labels note.batch) note.fetched))) None)
        (and_from _ _ (not_from_false _ open-note) (lt-ltb _ _ left))
        ∙ ap (option_map (λ (entry : ScriptEntry). record {
          label = member_label (w.labels note.batch) note.fetched;
          desc = entry.desc;
        })) (ap (slice_get entries) label-is ∙ at_entry)

    offers : offer_at (parties_of script) w (moves.Fetch e) ≡ Some offer
    offers =
        ap (λ b. cond b (option_map (λ (next : NextMember). record { event = Fetch e next.desc; label = next.label })
        (option_and_then (next_member entries) (get_or (key w.labels w.state).notes e None))) None) part
        ∙ ap (λ o. option_map (λ (next : NextMember). record { event = Fetch e next.desc; label = next.label })
        (option_and_then (next_member entries) o))
        (get_or-map (option_map (labelled_note w.labels)) w.state.work.notes e None
        ∙ ap (option_map (labelled_note w.labels)) at)
        ∙ ap (option_map (λ (next : NextMember). record { event = Fetch e next.desc; label = next.label }))
        next-is-member

    member-made : Made
    member-made = engine-made (λ c. ap (is_by_client c) d) (λ a. ap (is_by_administrator a) d) (moves.Fetch e) offer
        offers (ap Some (same ∙ sym ev)) (ap fetches label-is ∙ sym d) (λ l. ap number_of d ∙ ap Some (sym label-is))
        (ap is_in_vain re) refl

  module _ (n : ℕ) (d : line.doer ≡ fetches n) where
    fetch-goes : (e : Event) → line.step.event ≡ e → (r : Reply) → line.step.reply ≡ r
        → is_work script before w.state (fetches n) e r ≡ true → Goes
    fetch-goes (Fetch e desc) ev (reply.Fetch (Fetched ticket)) re h =
        let p = and_parts (takes_part script e) (is_fetch_of script before w.state n e desc) h in
        let q = and_parts (passes (is_next_of script before n) (note_at w.state.work e))
        (passes (λ (entry : ScriptEntry). is_event (Fetch e entry.desc) (Fetch e desc)) (slice_get entries n)) p.1 in
        let note = passing (is_next_of script before n) (note_at w.state.work e) q.0 in
        let entry = passing (λ (entry : ScriptEntry). is_event (Fetch e entry.desc) (Fetch e desc))
        (slice_get entries n) q.1 in
        let batch = passing (λ batch. is_member_at entries batch n && n == batch + 1 + note.0.fetched)
        (entry_named before note.0.batch) note.1.1 in
        let last = and_parts (is_member_at entries batch.0 n) (n == batch.0 + 1 + note.0.fetched) batch.1.1 in
        inl (member-made n d e desc ticket ev re p.0 note.0 note.1.0 entry.0 entry.1.0
        (same-event (Fetch e entry.0.desc) (Fetch e desc) entry.1.1) batch.0 batch.1.0 last.0
        (eqb-true n (batch.0 + 1 + note.0.fetched) last.1))
    fetch-goes e ev r re h = absurd cc

  pub works-line : line.doer ≡ works → is_work script before w.state line.doer line.step.event line.step.reply ≡ true
      → Goes
  works-line d h = work-goes d line.step.event refl line.step.reply refl
      (subst (λ z. is_work script before w.state z line.step.event line.step.reply ≡ true) d h)

  pub fetches-line : (n : ℕ) → line.doer ≡ fetches n
      → is_work script before w.state line.doer line.step.event line.step.reply ≡ true → Goes
  fetches-line n d h = fetch-goes n d line.step.event refl line.step.reply refl
      (subst (λ z. is_work script before w.state z line.step.event line.step.reply ≡ true) d h)
