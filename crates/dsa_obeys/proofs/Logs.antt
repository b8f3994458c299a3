-- The moves of a walk leave a log that obeys the script.
use Rattle.dsa_book.specs.declared.answer.Reply.TheVariants as reply
use Rattle.dsa_book.specs.contracts.event.EventEq.TheImpl.Laws as event_laws
use Rattle.dsa_parties.specs.declared.places.Move.TheVariants as moving
use Rattle.std.proofs.Common.{zero, suc, ◌≡◌, ℕ, ◌+◌, ◌<◌, ◌≤◌, ◌==◌, Bool, true, false, cond, not, ◌&&◌, List, [], ◌∷◌, map}
use Rattle.std.proofs.Common.{find, length, slice_get, slice_set, Option, Some, None, refl, sym, ap, ◌∙◌, subst}
use Rattle.std.proofs.Common.{⊎_elim, arith, eq-eqb, nat_lt, get_or, unwrap_or}
use Rattle.std.specs.{Prelude.{option_map, option_and_then}, Option.{option_map_or}}
use Rattle.std.proofs.lemmas.{Bool.{and_parts, and_from, or_left, or_right, eqb-true, ltb-true, cases_eq, ne_eqb, not-true}}
use Rattle.std.proofs.lemmas.{Option.{same_Some}}
use Rattle.std.proofs.Math.ListN.{get_or-map}
use Rattle.std.proofs.lemmas.List.Elements.{filter-append}
use Rattle.std.proofs.lemmas.List.{length-map}
use Rattle.dsa_base.proofs.Counts.{length-filter-le}
use Rattle.dsa_base.specs.{Lists.{In}, Rows.{passes, when}}
use Rattle.dsa_base.proofs.{Lists.{In-find}, Tables.{not-both}}
use Rattle.dsa_desc.specs.declared.{Descriptor.{Descriptor}, Outcome.{Outcome}}
use Rattle.dsa_regs.specs.declared.Caps.{Caps}
use Rattle.dsa_store.specs.{declared.entry.Cell.{Cell}, Content.{HeldEntry}}
use Rattle.dsa_book.specs.declared.answer.{Reply.{Reply}}
use Rattle.dsa_book.specs.declared.answer.FetchAnswer.{TheVariants.{Fetched, AllFetched}}
use Rattle.dsa_book.specs.declared.event.{Event.{Event}, Step.{Step}}
use Rattle.dsa_book.specs.declared.event.Event.TheVariants.{Submit, Dispatch, Fetch, Start, Finish}
use Rattle.dsa_book.specs.declared.note.BatchNote.{BatchNote}
use Rattle.dsa_book.specs.State.{Work, State, ticket_of_entry}
use Rattle.dsa_book.specs.Work.{note_at, in_progress, running_on, batch_on, is_all_fetched, after_fetch, fetch, fetch_of}
use Rattle.dsa_book.specs.Work.{fetch_for}
use Rattle.dsa_book.specs.Machine.{next, is_stored, is_run, replay, replay_from, stored_steps}
use Rattle.dsa_book.specs.{Choice.{choice_of, chosen_cell}}
use Rattle.dsa_book.proofs.{Gains.{named_by}}
use Rattle.dsa_keys.specs.Labels.{labelled_reply}
use Rattle.dsa_keys.specs.{Labels.{Labels, labelled_note}, Key.{key}}
use Rattle.dsa_keys.specs.Parties.{Offer, World, Made, labels_for, offer_at, world_with, world_after_offer, world_after}
use Rattle.dsa_keys.specs.{Parties.{world_after_all, IsGoodWorld}, Steps.{event_by_label}}
use Rattle.dsa_keys.proofs.{Known.{IsKnown, known}, SameSteps.{named-other}, Parties.{worlds-answer}}
use Rattle.dsa_parties.specs.declared.places.{ClientPlace.{ClientPlace}, ClientTurn.{ClientTurn}, NextMember.{NextMember}}
use Rattle.dsa_parties.specs.declared.places.Move.{Move}
use Rattle.dsa_parties.specs.declared.script.{ClientScript.{ClientScript}, Part.{Part}, Script.{Script}}
use Rattle.dsa_parties.specs.declared.script.{ScriptEntry.{ScriptEntry}, Act.{Act}}
use Rattle.dsa_parties.specs.Scripts.{member_count, member_label, is_member_at, is_fetched_for}
use Rattle.dsa_parties.specs.Standing.{Standing, turn_of, next_act, act_of, place_first, place_after, act_after}
use Rattle.dsa_parties.specs.Standing.{standing_after}
use Rattle.dsa_parties.specs.Offers.{submission_event, act_event, bare_offer, has_engine, may_give, next_member}
use Rattle.dsa_parties.specs.Offers.{label_ticket, parties_of}
use Rattle.dsa_parties.specs.Good.{is_good, first_world}
use Rattle.dsa_parties.proofs.Fits.{below-all, is-submitted, has-members, member-at}
use Rattle.dsa_parties.proofs.Stands.{fits, parts-below}
use Rattle.dsa_parties.proofs.ClientTurns.{IsTurn, is-turn, turn-submission, is_of_submission}
use Rattle.dsa_parties.proofs.{Worlds.{note-named}, Lawful.{lawful, first-good}, Replies.{standing-same}}
use Rattle.dsa_obeys.specs.Obeys.{submits, does, fetches, LogLine, number_of, is_of_number, is_by_client}
use Rattle.dsa_obeys.specs.Obeys.{is_by_administrator, client_lines, administrator_lines, is_event, event_of_entry}
use Rattle.dsa_obeys.specs.Obeys.{event_of_act, event_asked, takes_part, entry_named, may_end, is_next_of}
use Rattle.dsa_obeys.specs.Obeys.{is_fetch_of, is_work, is_due, to_submit, to_do, submit_in_order, do_in_order}
use Rattle.dsa_obeys.specs.Obeys.{are_due, is_client_in_order, is_administrator_in_order}
use Rattle.dsa_obeys.specs.Walks.{doer_of, line_of_offer, line_of_move, lines_of_moves, IsObeyingRun}
use Rattle.dsa_obeys.proofs.{Filters.{filter-in, filter-out, set-here, set-other, some-at}, Runs.{runs-on, run-joined, RunsOn}}
use Rattle.dsa_obeys.proofs.{Submissions.{part_from, first-left}, Named.{AreNamed, named-after, never-full}}
use Rattle.dsa_obeys.proofs.{Lines.{said, act-event-is, act-by-label, act-names-none}, Works.{gives-same, running-in}}
use Rattle.dsa_obeys.proofs.Orders.{turn-in-order, IsAct, is-act, act-in-order}

-- ---- events

-- an event is itself
itself : (e : Event) → is_event e e ≡ true
itself e = event_laws.laws-law.refl e

-- ---- what is found

find-some : {X : Type 0} (p : X → Bool) (x : X) (xs : List X) → In x xs → p x ≡ true
    → (y : X) × (find p xs ≡ Some y)
find-some p x [] i t = absurd i
find-some {X} p x (y ∷ ys) i t = go (λ j. find-some p x ys j t) (p y) refl
  where
    go : (In x ys → (z : X) × (find p ys ≡ Some z)) → (b : Bool) → p y ≡ b
        → (z : X) × (cond b (Some y) (find p ys) ≡ Some z)
    go further true h = (y, refl)
    go further false h = further (⊎_elim (λ (e : y ≡ x). not-both (p x) t (ap p (sym e) ∙ h)) (λ j. j) i)

-- of an open note whose batch is in progress the next member is fetched
fetched-of : (w : Work) (e : ℕ) (desc : Descriptor) (cell : Cell) (note : BatchNote) (b : HeldEntry)
    → note_at w e ≡ Some note → is_all_fetched note ≡ false → batch_on w e note ≡ Some b
    → (fetch w e desc cell).0 ≡ Fetched (record { cell = cell; name = w.setup.next_name })
fetched-of w e desc cell note b at still_open found =
    ap (λ o. (fetch_for w e desc cell o).0) at
    ∙ ap (λ o. (fetch_of w e desc cell note o).0) found
    ∙ ap (λ t. (unwrap_or (cond t (Some (AllFetched, w)) None) (after_fetch w e desc cell note b.1)).0) still_open

-- ---- offers

tested : {X : Type 0} (b : Bool) (x y : X) → when b x ≡ Some y → (b ≡ true) × (x ≡ y)
tested true x y h = (refl, same_Some x y h)
tested false x y h = absurd cc

-- what is offered where an engine fetches
record FetchOffer (script : Script) (w : World Standing) (e : ℕ) (o : Offer) : Type 0 where
  part : has_engine script e ≡ true
  note : BatchNote
  at : note_at w.state.work e ≡ Some note
  open_note : is_all_fetched note ≡ false
  left : note.fetched < member_count script.entries.items (w.labels note.batch)
  entry : ScriptEntry
  at_entry : slice_get script.entries.items (member_label (w.labels note.batch) note.fetched) ≡ Some entry
  offer : o ≡ record { event = Fetch e entry.desc; label = member_label (w.labels note.batch) note.fetched }

abbrev as_fetch : ℕ → NextMember → Offer
as_fetch e next = record { event = Fetch e next.desc; label = next.label }

fetch-offer : (script : Script) (w : World Standing) (e : ℕ) (o : Offer)
    → offer_at (parties_of script) w (moving.Fetch e) ≡ Some o → FetchOffer script w e o
fetch-offer script w e o h = engine (has_engine script e) refl h
  where
    entry-at : has_engine script e ≡ true → (note : BatchNote) → note_at w.state.work e ≡ Some note
        → is_all_fetched note ≡ false → note.fetched < member_count script.entries.items (w.labels note.batch)
        → (x : Option ScriptEntry)
        → slice_get script.entries.items (member_label (w.labels note.batch) note.fetched) ≡ x
        → option_map (as_fetch e) (option_map (λ (entry : ScriptEntry). record {
          label = member_label (w.labels note.batch) note.fetched;
          desc = entry.desc;
        }) x) ≡ Some o → FetchOffer script w e o
    entry-at part note n still_open left None at h = absurd cc
    entry-at part note n still_open left (Some entry) at h = record {
      part = part;
      note = note;
      at = n;
      open_note = still_open;
      left = left;
      entry = entry;
      at_entry = at;
      offer = sym (same_Some _ o h);
    }

    by-test : has_engine script e ≡ true → (note : BatchNote) → note_at w.state.work e ≡ Some note
        → (b : Bool) → (not (is_all_fetched note)
        && nat_lt note.fetched (member_count script.entries.items (w.labels note.batch))) ≡ b
        → option_map (as_fetch e) (cond b (option_map (λ (entry : ScriptEntry). record {
          label = member_label (w.labels note.batch) note.fetched;
          desc = entry.desc;
        }) (slice_get script.entries.items (member_label (w.labels note.batch) note.fetched))) None) ≡ Some o
        → FetchOffer script w e o
    by-test part note n false t h = absurd cc
    by-test part note n true t h =
        let p = and_parts (not (is_all_fetched note))
        (nat_lt note.fetched (member_count script.entries.items (w.labels note.batch))) t in
        entry-at part note n (not-true (is_all_fetched note) p.0) (ltb-true _ _ p.1)
        (slice_get script.entries.items (member_label (w.labels note.batch) note.fetched)) refl h

    noted : has_engine script e ≡ true → (t : Option BatchNote) → note_at w.state.work e ≡ t
        → option_map (as_fetch e)
        (option_and_then (next_member script.entries.items) (option_map (labelled_note w.labels) t)) ≡ Some o
        → FetchOffer script w e o
    noted part None n h = absurd cc
    noted part (Some note) n h = by-test part note n (not (is_all_fetched note)
        && nat_lt note.fetched (member_count script.entries.items (w.labels note.batch))) refl h

    engine : (b : Bool) → has_engine script e ≡ b
        → cond b (option_map (as_fetch e) (option_and_then (next_member script.entries.items)
        (get_or (key w.labels w.state).notes e None))) None ≡ Some o
        → FetchOffer script w e o
    engine false part h = absurd cc
    engine true part h = noted part (note_at w.state.work e) refl
        (sym (ap (λ t. option_map (as_fetch e) (option_and_then (next_member script.entries.items) t))
        (get_or-map (option_map (labelled_note w.labels)) w.state.work.notes e None)) ∙ h)

-- ---- orders

abbrev ClientsInOrder : Script → List ClientPlace → List LogLine → Type 0
ClientsInOrder script places log = (c : ℕ) (client : ClientScript) (place : ClientPlace)
    → slice_get script.clients.items c ≡ Some client → slice_get places c ≡ Some place
    → submit_in_order script.entries.items (to_submit script.entries.items (part_from place.next client.part))
    place.refusals (client_lines c log) ≡ true

abbrev AdministratorsInOrder : Script → List ℕ → List LogLine → Type 0
AdministratorsInOrder script places log = (a : ℕ) (part : Part) (next : ℕ)
    → slice_get script.administrators.items a ≡ Some part → slice_get places a ≡ Some next
    → do_in_order script.acts.items (to_do script.acts.items (part_from next part)) (administrator_lines a log) ≡ true

clients-kept : (script : Script) (places : List ClientPlace) (line : LogLine) (log : List LogLine)
    → ((c : ℕ) → is_by_client c line.doer ≡ false) → ClientsInOrder script places log
    → ClientsInOrder script places (line ∷ log)
clients-kept script places line log apart h c client place e p = subst
    (λ lines. submit_in_order script.entries.items (to_submit script.entries.items (part_from place.next client.part))
    place.refusals lines ≡ true)
    (sym (filter-out (λ (line : LogLine). is_by_client c line.doer) line log (apart c))) (h c client place e p)

administrators-kept : (script : Script) (places : List ℕ) (line : LogLine) (log : List LogLine)
    → ((a : ℕ) → is_by_administrator a line.doer ≡ false) → AdministratorsInOrder script places log
    → AdministratorsInOrder script places (line ∷ log)
administrators-kept script places line log apart h a part next e p = subst
    (λ lines. do_in_order script.acts.items (to_do script.acts.items (part_from next part)) lines ≡ true)
    (sym (filter-out (λ (line : LogLine). is_by_administrator a line.doer) line log (apart a))) (h a part next e p)

-- ---- one move

abbrev line_left : Script → World Standing → Move → Reply → Offer → Event → LogLine
line_left script w move r o e = record {
  step = record { event = e; reply = r };
  doer = doer_of script w.places move o.label;
}

-- the line of the move is due, and a log in order behind it is in order before it
record IsFine (script : Script) (before : List LogLine) (w : World Standing) (move : Move) (r : Reply) (o : Offer)
    (e : Event) : Type 0 where
  due : is_due script before w.state (line_left script w move r o e) ≡ true
  about : 0 < named_by r → number_of (doer_of script w.places move o.label) ≡ Some o.label
  places : Standing
  places_are : standing_after script w.places move r ≡ places
  clients : (log : List LogLine) → ClientsInOrder script places.clients log
      → ClientsInOrder script w.places.clients (line_left script w move r o e ∷ log)
  administrators : (log : List LogLine) → AdministratorsInOrder script places.administrators log
      → AdministratorsInOrder script w.places.administrators (line_left script w move r o e ∷ log)

module _ (caps : Caps) (script : Script) (before : List LogLine) (w : World Standing)
    (world : IsGoodWorld caps (is_good script) w) (given : AreNamed before w.labels w.state) (r : Reply) where
  abbrev entries : List ScriptEntry
  entries = script.entries.items

  is-known : IsKnown w.labels w.state.work
  is-known = known caps w.labels w.state world.is_labelled.well_formed world.is_labelled.distinct

  abbrev Fine : Move → Offer → Event → Type 0
  Fine move o e = IsFine script before w move r o e

  -- ---- a client's

  module _ (c : ℕ) (turn : ClientTurn) (is_turn : turn_of script w.places c ≡ Some turn) (s : State)
      (step : next w.state (submission_event turn) r ≡ Some s) where
    t : IsTurn script w.places c turn
    t = is-turn script w.places c turn is_turn

    abbrev turn-line : LogLine
    turn-line = line_left script w (moving.Client c) r
        (record { event = submission_event turn; label = turn.place.next }) (submission_event turn)

    asked : event_asked script (submits c turn.place.next) ≡ Some (submission_event turn)
    asked =
        let x = is-submitted entries turn.place.next turn.submission (turn-submission t) in
        let same = same_Some x.entry t.entry (sym x.at ∙ t.at_entry) in
        let desc : x.entry.desc ≡ turn.desc = ap (λ (z : ScriptEntry). z.desc) same ∙ t.desc in
        ap (option_and_then (λ (client : ClientScript). option_and_then
        (λ (entry : ScriptEntry). event_of_entry client.number entry.desc entry.origin)
        (slice_get entries turn.place.next))) t.at_client
        ∙ ap (option_and_then (λ (entry : ScriptEntry). event_of_entry t.client.number entry.desc entry.origin)) x.at
        ∙ ap (event_of_entry t.client.number x.entry.desc) x.origin
        ∙ (λ i. Some (Submit (t.number i) turn.submission.queue turn.submission.portal turn.submission.kind (desc i)))

    whole : to_submit entries (part_from turn.place.next t.client.part)
        ≡ turn.place.next ∷ to_submit entries (part_from (turn.place.next + 1 + turn.submission.members) t.client.part)
    whole = first-left entries (fits script).order turn.place.next t.client.part turn.submission (turn-submission t)
        t.below (parts-below 0 (length entries) script.clients.items c t.client (fits script).parts t.at_client).1

    own-order : (log : List LogLine)
        → ClientsInOrder script (slice_set w.places.clients c (place_after r turn)) log
        → submit_in_order entries (to_submit entries (part_from turn.place.next t.client.part)) turn.place.refusals
        (client_lines c (turn-line ∷ log)) ≡ true
    own-order log h = subst
        (λ lines. submit_in_order entries (to_submit entries (part_from turn.place.next t.client.part))
        turn.place.refusals lines ≡ true)
        (sym (filter-in (λ (line : LogLine). is_by_client c line.doer) turn-line log (eq-eqb c c refl)))
        (turn-in-order entries t.client.part turn (turn-submission t) whole (client_lines c log) turn-line
        (eq-eqb turn.place.next turn.place.next refl)
        (said is_of_submission true w.state s (submission_event turn) r step refl)
        (never-full w.state s (submission_event turn) r step)
        (h c t.client (place_after r turn) t.at_client (set-here w.places.clients c turn.place _ t.at_place)))

    client-fine : Fine (moving.Client c) (record { event = submission_event turn; label = turn.place.next })
        (submission_event turn)
    client-fine = record {
      due = or_left _ _ (ap (passes (is_event (submission_event turn))) asked ∙ itself (submission_event turn));
      about = λ l. refl;
      places = record w.places { clients = slice_set w.places.clients c (place_after r turn) };
      places_are = ap (λ t. record w.places {
        clients = option_map_or (λ turn. slice_set w.places.clients c (place_after r turn)) t w.places.clients;
      }) is_turn;
      clients = λ log h b client place e p. ⊎_elim
          (λ (same : b ≡ c).
          let client-is : t.client ≡ client =
          same_Some t.client client (sym t.at_client ∙ ap (slice_get script.clients.items) (sym same) ∙ e) in
          let place-is : turn.place ≡ place =
          same_Some turn.place place (sym t.at_place ∙ ap (slice_get w.places.clients) (sym same) ∙ p) in
          subst (λ k. submit_in_order entries (to_submit entries (part_from place.next client.part)) place.refusals
          (client_lines k (turn-line ∷ log)) ≡ true) (sym same)
          (subst (λ (z : ClientPlace). submit_in_order entries (to_submit entries (part_from z.next client.part))
          z.refusals (client_lines c (turn-line ∷ log)) ≡ true) place-is
          (subst (λ (z : ClientScript). submit_in_order entries
          (to_submit entries (part_from turn.place.next z.part)) turn.place.refusals
          (client_lines c (turn-line ∷ log)) ≡ true) client-is (own-order log h))))
          (λ ne. subst (λ lines. submit_in_order entries
          (to_submit entries (part_from place.next client.part)) place.refusals lines ≡ true)
          (sym (filter-out (λ (line : LogLine). is_by_client b line.doer) turn-line log
          (ne_eqb c b (λ q. ne (sym q)))))
          (h b client place e (set-other w.places.clients c b (place_after r turn) ne ∙ p)))
          (cases_eq b c);
      administrators = λ log h. administrators-kept script w.places.administrators turn-line log (λ a. refl) h;
    }

  -- ---- an administrator's

  module _ (a : ℕ) (act : Act) (is_act : act_of script w.places a ≡ Some act) (s : State)
      (step : next w.state (event_of_act act) r ≡ Some s) where
    t' : IsAct script w.places.administrators a act
    t' = is-act script w.places a act is_act

    abbrev act-line : LogLine
    act-line = line_left script w (moving.Administrator a) r (bare_offer script (act_event act)) (event_of_act act)

    next-is : next_act script w.places a ≡ Some t'.next
    next-is = t'.next_is w.places.clients w.places.came

    doer-is : does a (unwrap_or (next_act script w.places a) 0) ≡ does a t'.next
    doer-is = ap (λ o. does a (unwrap_or o 0)) next-is

    act-asked : event_asked script (does a t'.next) ≡ Some (event_of_act act)
    act-asked = ap (option_and_then (λ (part : Part). option_map event_of_act
        (slice_get script.acts.items t'.next))) t'.at_part
        ∙ ap (option_map event_of_act) t'.at_act

    own-acts : (log : List LogLine)
        → AdministratorsInOrder script (slice_set w.places.administrators a (act_after r t'.next act)) log
        → do_in_order script.acts.items (to_do script.acts.items (part_from t'.next t'.part))
        (administrator_lines a (act-line ∷ log)) ≡ true
    own-acts log h = subst
        (λ lines. do_in_order script.acts.items (to_do script.acts.items (part_from t'.next t'.part)) lines ≡ true)
        (sym (filter-in (λ (line : LogLine). is_by_administrator a line.doer) act-line log (eq-eqb a a refl)))
        (act-in-order script w.places.administrators a act t' (administrator_lines a log) act-line
        (ap (is_of_number t'.next) doer-is ∙ eq-eqb t'.next t'.next refl)
        (h a t'.part (act_after r t'.next act) t'.at_part
        (set-here w.places.administrators a t'.next _ t'.at_next)))

    act-fine : Fine (moving.Administrator a) (bare_offer script (act_event act)) (event_of_act act)
    act-fine = record {
      due = or_left _ _ (ap (λ d. passes (is_event (event_of_act act)) (event_asked script d)) doer-is
          ∙ ap (passes (is_event (event_of_act act))) act-asked ∙ itself (event_of_act act));
      about = λ l. absurd (omega (
        arith,
        l,
        said named_by 0 w.state s (event_of_act act) r step (act-names-none w.state act (choice_of r)),
      ));
      places = record w.places {
        administrators = slice_set w.places.administrators a (act_after r t'.next act);
      };
      places_are = ap (λ o. record w.places {
        administrators = option_map_or (λ next. option_map_or
            (λ act. slice_set w.places.administrators a (act_after r next act))
            (slice_get script.acts.items next) w.places.administrators) o w.places.administrators;
      }) next-is
          ∙ ap (λ o. record w.places {
            administrators = option_map_or (λ act. slice_set w.places.administrators a (act_after r t'.next act)) o
                w.places.administrators;
          }) t'.at_act;
      clients = λ log h. clients-kept script w.places.clients act-line log (λ c. refl) h;
      administrators = λ log h b part next e p. ⊎_elim
          (λ (same : b ≡ a).
          let part-is : t'.part ≡ part =
          same_Some t'.part part (sym t'.at_part ∙ ap (slice_get script.administrators.items) (sym same) ∙ e) in
          let place-is : t'.next ≡ next =
          same_Some t'.next next (sym t'.at_next ∙ ap (slice_get w.places.administrators) (sym same) ∙ p) in
          subst (λ k. do_in_order script.acts.items (to_do script.acts.items (part_from next part))
          (administrator_lines k (act-line ∷ log)) ≡ true) (sym same)
          (subst (λ z. do_in_order script.acts.items (to_do script.acts.items (part_from z part))
          (administrator_lines a (act-line ∷ log)) ≡ true) place-is
          (subst (λ (z : Part). do_in_order script.acts.items (to_do script.acts.items (part_from t'.next z))
          (administrator_lines a (act-line ∷ log)) ≡ true) part-is (own-acts log h))))
          (λ ne. subst (λ lines. do_in_order script.acts.items (to_do script.acts.items (part_from next part)) lines
          ≡ true)
          (sym (filter-out (λ (line : LogLine). is_by_administrator b line.doer) act-line log
          (ne_eqb a b (λ q. ne (sym q)))))
          (h b part next e (set-other w.places.administrators a b (act_after r t'.next act) ne ∙ p)))
          (cases_eq b a);
    }

  -- ---- an engine's

  due-by-work : (line : LogLine)
      → is_work script before w.state line.doer line.step.event line.step.reply ≡ true
      → is_due script before w.state line ≡ true
  due-by-work line h = or_right (passes (is_event line.step.event) (event_asked script line.doer))
      (is_work script before w.state line.doer line.step.event line.step.reply) h

  engine-fine : (move : Move) (o : Offer) (e : Event)
      → ((c : ℕ) → is_by_client c (doer_of script w.places move o.label) ≡ false)
      → ((a : ℕ) → is_by_administrator a (doer_of script w.places move o.label) ≡ false)
      → standing_after script w.places move r ≡ w.places
      → is_work script before w.state (doer_of script w.places move o.label) e r ≡ true
      → (0 < named_by r → number_of (doer_of script w.places move o.label) ≡ Some o.label) → Fine move o e
  engine-fine move o e no_client no_administrator stays work about = record {
    due = due-by-work (line_left script w move r o e) work;
    about = about;
    places = w.places;
    places_are = stays;
    clients = λ log h. clients-kept script w.places.clients (line_left script w move r o e) log no_client h;
    administrators = λ log h.
        administrators-kept script w.places.administrators (line_left script w move r o e) log no_administrator h;
  }

  dispatch-fine : (e : ℕ) (s : State) → has_engine script e ≡ true → next w.state (Dispatch e) r ≡ Some s
      → Fine (moving.Dispatch e) (bare_offer script (Dispatch e)) (Dispatch e)
  dispatch-fine e s part step =
      engine-fine (moving.Dispatch e) (bare_offer script (Dispatch e)) (Dispatch e) (λ c. refl) (λ a. refl) refl part
      (λ l. absurd (omega (arith, l, said named_by 0 w.state s (Dispatch e) r step refl)))

  start-fine : (e : ℕ) (s : State) → has_engine script e ≡ true → next w.state (Start e) r ≡ Some s
      → Fine (moving.Start e) (bare_offer script (Start e)) (Start e)
  start-fine e s part step =
      engine-fine (moving.Start e) (bare_offer script (Start e)) (Start e) (λ c. refl) (λ a. refl) refl part
      (λ l. absurd (omega (arith, l, said named_by 0 w.state s (Start e) r step refl)))

  module _ (e : ℕ) (o : Offer) (f : FetchOffer script w e o) (s : State)
      (step : next w.state (Fetch e f.entry.desc) r ≡ Some s) where
    abbrev batch : ℕ
    batch = w.labels f.note.batch

    abbrev member : ℕ
    member = member_label batch f.note.fetched

    abbrev member-offer : Offer
    member-offer = record { event = Fetch e f.entry.desc; label = member }

    on-batch : (b : HeldEntry) × (batch_on w.state.work e f.note ≡ Some b)
    on-batch =
        let b = is-known.batches e f.note f.at in
        find-some (λ (x : HeldEntry). x.1.name == f.note.batch) b.0 (in_progress w.state.work e) b.1.0
        (eq-eqb b.0.1.name f.note.batch (sym b.1.1))

    reply-is : reply.Fetch (Fetched (record { cell = chosen_cell (choice_of r); name = w.state.work.setup.next_name }))
        ≡ r
    reply-is = sym (ap (λ a. reply.Fetch a) (fetched-of w.state.work e f.entry.desc (chosen_cell (choice_of r)) f.note
        on-batch.0 f.at f.open_note on-batch.1))
        ∙ sym (said (λ (z : Reply). z) (reply.Fetch (fetch w.state.work e f.entry.desc (chosen_cell (choice_of r))).0)
        w.state s (Fetch e f.entry.desc) r step refl)

    named : entry_named before f.note.batch ≡ Some batch
    named = given f.note.batch (note-named caps w.labels w.state world.is_labelled e f.note f.at)

    is-member : is_member_at entries batch member ≡ true
    is-member =
        let m = has-members entries batch (omega (arith, f.left)) in
        let x = member-at entries (fits script).order batch f.note.fetched m.submission m.at
        (omega (arith, f.left, m.count)) in
        ap (passes (λ (entry : ScriptEntry). is_fetched_for batch entry.origin)) x.at
        ∙ ap (is_fetched_for batch) x.origin ∙ eq-eqb batch batch refl

    is-next : is_next_of script before member f.note ≡ true
    is-next = ap (passes (λ b. is_member_at entries b member && member == b + 1 + f.note.fetched)) named
        ∙ and_from _ _ is-member (eq-eqb member member refl)

    is-fetch : is_fetch_of script before w.state member e f.entry.desc ≡ true
    is-fetch = and_from _ _ (ap (passes (is_next_of script before member)) f.at ∙ is-next)
        (ap (passes (λ (entry : ScriptEntry). is_event (Fetch e entry.desc) (Fetch e f.entry.desc))) f.at_entry
        ∙ itself (Fetch e f.entry.desc))

    fetch-fine : Fine (moving.Fetch e) member-offer (Fetch e f.entry.desc)
    fetch-fine = engine-fine (moving.Fetch e) member-offer (Fetch e f.entry.desc) (λ c. refl) (λ a. refl) refl
        (subst (λ z. is_work script before w.state (fetches member) (Fetch e f.entry.desc) z ≡ true)
        reply-is (and_from (takes_part script e) (is_fetch_of script before w.state member e f.entry.desc)
        f.part is-fetch))
        (λ l. refl)

  module _ (e label : ℕ) (outcome : Outcome) (part : has_engine script e ≡ true)
      (may : may_give entries label outcome ≡ true) (x : HeldEntry)
      (found : find (λ (y : HeldEntry).
      labels_for w (bare_offer script (Finish e (label_ticket label) outcome)) y.1.name == label)
      (running_on w.state.work e) ≡ Some x) (s : State)
      (step : next w.state (Finish e (ticket_of_entry x) outcome) r ≡ Some s) where
    abbrev end-offer : Offer
    end-offer = bare_offer script (Finish e (label_ticket label) outcome)

    it : In x (running_on w.state.work e) × ((labels_for w end-offer x.1.name == label) ≡ true)
    it = In-find (λ (y : HeldEntry). labels_for w end-offer y.1.name == label) x (running_on w.state.work e) found

    below : x.1.name < w.state.work.setup.next_name
    below = is-known.below x (running-in w.state.work e x it.0)

    of-label : entry_named before x.1.name ≡ Some label
    of-label = given x.1.name below
        ∙ ap Some (sym (named-other w.labels w.state.work.setup.next_name (length entries) x.1.name below)
        ∙ eqb-true _ _ it.1)

    end-fine : Fine (moving.Finish e label outcome) end-offer (Finish e (ticket_of_entry x) outcome)
    end-fine = engine-fine (moving.Finish e label outcome) end-offer (Finish e (ticket_of_entry x) outcome)
        (λ c. refl) (λ a. refl) refl
        (and_from (takes_part script e)
        (unwrap_or (option_map (λ n. may_end script n outcome) (entry_named before x.1.name)) true) part
        (ap (λ o. unwrap_or (option_map (λ n. may_end script n outcome) o) true) of-label
        ∙ gives-same (slice_get entries label) outcome ∙ may))
        (λ l. absurd (omega (
          arith,
          l,
          said named_by 0 w.state s (Finish e (ticket_of_entry x) outcome) r step refl,
        )))

  -- ---- any move

  fine : (move : Move) (o : Offer) (e : Event) (s : State) → offer_at (parties_of script) w move ≡ Some o
      → event_by_label (labels_for w o) w.state o.event ≡ Some e → next w.state e r ≡ Some s → Fine move o e
  fine (moving.Client c) o e s offers event step = by-turn (turn_of script w.places c) refl offers
    where
      by-turn : (t : Option ClientTurn) → turn_of script w.places c ≡ t
          → option_map (λ (turn : ClientTurn). record { event = submission_event turn; label = turn.place.next }) t
          ≡ Some o → Fine (moving.Client c) o e
      by-turn None q h = absurd cc
      by-turn (Some turn) q h =
          let is = same_Some _ o h in
          let e-is : submission_event turn ≡ e = same_Some _ e
          (subst (λ (z : Offer). event_by_label (labels_for w z) w.state z.event ≡ Some e) (sym is) event) in
          subst (λ z. Fine (moving.Client c) z e) is
          (subst (λ z. Fine (moving.Client c) (record { event = submission_event turn; label = turn.place.next }) z) e-is
          (client-fine c turn q s (subst (λ z. next w.state z r ≡ Some s) (sym e-is) step)))
  fine (moving.Administrator a) o e s offers event step = by-act (act_of script w.places a) refl offers
    where
      by-act : (t : Option Act) → act_of script w.places a ≡ t
          → option_map (λ act. bare_offer script (act_event act)) t ≡ Some o → Fine (moving.Administrator a) o e
      by-act None q h = absurd cc
      by-act (Some act) q h =
          let is = same_Some _ o h in
          let e-is : event_of_act act ≡ e = same_Some _ e
          (ap Some (sym (act-event-is act)) ∙ sym (act-by-label (labels_for w (bare_offer script (act_event act))) w.state act)
          ∙ subst (λ (z : Offer). event_by_label (labels_for w z) w.state z.event ≡ Some e) (sym is) event) in
          subst (λ z. Fine (moving.Administrator a) z e) is
          (subst (λ z. Fine (moving.Administrator a) (bare_offer script (act_event act)) z) e-is
          (act-fine a act q s (subst (λ z. next w.state z r ≡ Some s) (sym e-is) step)))
  fine (moving.Dispatch e') o e s offers event step =
      let t = tested (has_engine script e') (bare_offer script (Dispatch e')) o offers in
      let e-is : Dispatch e' ≡ e = same_Some _ e
      (subst (λ (z : Offer). event_by_label (labels_for w z) w.state z.event ≡ Some e) (sym t.1) event) in
      subst (λ z. Fine (moving.Dispatch e') z e) t.1
      (subst (λ z. Fine (moving.Dispatch e') (bare_offer script (Dispatch e')) z) e-is
      (dispatch-fine e' s t.0 (subst (λ z. next w.state z r ≡ Some s) (sym e-is) step)))
  fine (moving.Start e') o e s offers event step =
      let t = tested (has_engine script e') (bare_offer script (Start e')) o offers in
      let e-is : Start e' ≡ e = same_Some _ e
      (subst (λ (z : Offer). event_by_label (labels_for w z) w.state z.event ≡ Some e) (sym t.1) event) in
      subst (λ z. Fine (moving.Start e') z e) t.1
      (subst (λ z. Fine (moving.Start e') (bare_offer script (Start e')) z) e-is
      (start-fine e' s t.0 (subst (λ z. next w.state z r ≡ Some s) (sym e-is) step)))
  fine (moving.Fetch e') o e s offers event step =
      let f = fetch-offer script w e' o offers in
      let e-is : Fetch e' f.entry.desc ≡ e = same_Some _ e
      (subst (λ (z : Offer). event_by_label (labels_for w z) w.state z.event ≡ Some e) f.offer event) in
      subst (λ z. Fine (moving.Fetch e') z e) (sym f.offer)
      (subst (λ z. Fine (moving.Fetch e') (member-offer e' o f s
      (subst (λ z. next w.state z r ≡ Some s) (sym e-is) step)) z) e-is
      (fetch-fine e' o f s (subst (λ z. next w.state z r ≡ Some s) (sym e-is) step)))
  fine (moving.Finish e' label outcome) o e s offers event step =
      let t = tested (has_engine script e' && may_give entries label outcome)
      (bare_offer script (Finish e' (label_ticket label) outcome)) o offers in
      let p = and_parts (has_engine script e') (may_give entries label outcome) t.0 in
      subst (λ z. Fine (moving.Finish e' label outcome) z e) t.1
      (by-found p.0 p.1 (find (λ (y : HeldEntry).
      labels_for w (bare_offer script (Finish e' (label_ticket label) outcome)) y.1.name == label)
      (running_on w.state.work e')) refl
      (subst (λ (z : Offer). event_by_label (labels_for w z) w.state z.event ≡ Some e) (sym t.1) event))
    where
      by-found : has_engine script e' ≡ true → may_give entries label outcome ≡ true → (x : Option HeldEntry)
          → find (λ (y : HeldEntry).
          labels_for w (bare_offer script (Finish e' (label_ticket label) outcome)) y.1.name == label)
          (running_on w.state.work e') ≡ x
          → option_map (λ (y : HeldEntry). Finish e' (ticket_of_entry y) outcome) x ≡ Some e
          → Fine (moving.Finish e' label outcome) (bare_offer script (Finish e' (label_ticket label) outcome)) e
      by-found part may None found h = absurd cc
      by-found part may (Some x) found h =
          let e-is = same_Some _ e h in
          subst (λ z. Fine (moving.Finish e' label outcome)
          (bare_offer script (Finish e' (label_ticket label) outcome)) z) e-is
          (end-fine e' label outcome part may x found s (subst (λ z. next w.state z r ≡ Some s) (sym e-is) step))

-- ---- all moves

abbrev steps_of : List LogLine → List Step
steps_of log = map (λ (line : LogLine). line.step) log

record LogFrom (script : Script) (before : List LogLine) (w : World Standing) (moves : List (Made Move))
    (last : World Standing) : Type 0 where
  log : List LogLine
  lines : lines_of_moves script w moves ≡ map Some log
  due : are_due script before w.state log ≡ true
  leads : replay_from (Some w.state) (steps_of log) ≡ Some last.state
  count : length log ≡ length moves
  clients : ClientsInOrder script w.places.clients log
  administrators : AdministratorsInOrder script w.places.administrators log

module _ (caps : Caps) (script : Script) (last : World Standing) where
  abbrev Further : List (Made Move) → Type 0
  Further moves = (before : List LogLine) (w : World Standing) → IsGoodWorld caps (is_good script) w
      → AreNamed before w.labels w.state → world_after_all (parties_of script) w moves ≡ Some last
      → LogFrom script before w moves last

  module _ (made : Made Move) (moves : List (Made Move)) (further : Further moves) (before : List LogLine)
      (w : World Standing) (world : IsGoodWorld caps (is_good script) w) (given : AreNamed before w.labels w.state)
    where
      abbrev From : Type 0
      From = LogFrom script before w (made ∷ moves) last

      at-state : (o : Offer) → offer_at (parties_of script) w made.move ≡ Some o → (e : Event)
          → event_by_label (labels_for w o) w.state o.event ≡ Some e → (s : State)
          → next w.state e made.reply ≡ Some s
          → world_after_all (parties_of script) (world_with (parties_of script) w made.move made.reply o s) moves ≡ Some last
          → From
      at-state o offers e event s step walk =
          let line = line_left script w made.move made.reply o e in
          let v = world_with (parties_of script) w made.move made.reply o s in
          let f = fine caps script before w world given made.reply made.move o e s offers event step in
          let came : world_after (parties_of script) w made.move made.reply ≡ Some v =
          ap (option_and_then (world_after_offer (parties_of script) w made.move made.reply)) offers
          ∙ ap (option_map (world_with (parties_of script) w made.move made.reply o))
          (ap (option_and_then (λ found. next w.state found made.reply)) event ∙ step) in
          let left : line_of_move script w made ≡ Some line =
          ap (option_and_then (line_of_offer script w made)) offers
          ∙ ap (option_map (λ (e : Event). record {
            step = record { event = e; reply = made.reply };
            doer = doer_of script w.places made.move o.label;
          })) event in
          let places : standing_after script w.places made.move (labelled_reply (labels_for w o) made.reply) ≡ f.places =
          standing-same script w.places made.move (labels_for w o) made.reply ∙ f.places_are in
          let rest = further (line ∷ before) v
          (worlds-answer caps (parties_of script) (is_good script) (lawful caps script) w v w made.move made.reply
          world world (record { places = refl; keys = refl }) came).left
          (named-after before line w.labels w.state s o.label step given f.about) walk in
          record {
            log = line ∷ rest.log;
            lines = (λ i. left i ∷ unwrap_or (option_map (λ v. lines_of_moves script v moves) (came i)) [])
                ∙ ap (λ lines. Some line ∷ lines) rest.lines;
            due = and_from _ _ f.due (subst (λ z. are_due script (line ∷ before) z rest.log ≡ true)
                (sym (ap (λ o. unwrap_or o w.state) step)) rest.due);
            leads = ap (λ o. replay_from o (steps_of rest.log)) step ∙ rest.leads;
            count = omega (arith, rest.count);
            clients = f.clients rest.log
                (subst (λ (z : Standing). ClientsInOrder script z.clients rest.log) places rest.clients);
            administrators = f.administrators rest.log
                (subst (λ (z : Standing). AdministratorsInOrder script z.administrators rest.log) places
                rest.administrators);
          }

      at-next : (o : Offer) → offer_at (parties_of script) w made.move ≡ Some o → (e : Event)
          → event_by_label (labels_for w o) w.state o.event ≡ Some e → (x : Option State)
          → next w.state e made.reply ≡ x
          → option_and_then (λ v. world_after_all (parties_of script) v moves)
          (option_map (world_with (parties_of script) w made.move made.reply o) x) ≡ Some last → From
      at-next o offers e event None step walk = absurd cc
      at-next o offers e event (Some s) step walk = at-state o offers e event s step walk

      at-event : (o : Offer) → offer_at (parties_of script) w made.move ≡ Some o → (x : Option Event)
          → event_by_label (labels_for w o) w.state o.event ≡ x
          → option_and_then (λ v. world_after_all (parties_of script) v moves)
          (option_map (world_with (parties_of script) w made.move made.reply o)
          (option_and_then (λ found. next w.state found made.reply) x)) ≡ Some last → From
      at-event o offers None event walk = absurd cc
      at-event o offers (Some e) event walk =
          at-next o offers e event (next w.state e made.reply) refl walk

      at-offer : (x : Option Offer) → offer_at (parties_of script) w made.move ≡ x
          → option_and_then (λ v. world_after_all (parties_of script) v moves)
          (option_and_then (world_after_offer (parties_of script) w made.move made.reply) x) ≡ Some last → From
      at-offer None offers walk = absurd cc
      at-offer (Some o) offers walk =
          at-event o offers (event_by_label (labels_for w o) w.state o.event) refl walk

  log-from : (moves : List (Made Move)) → Further moves
  log-from [] before w world given walk = record {
    log = [];
    lines = refl;
    due = refl;
    leads = ap (λ (z : World Standing). Some z.state) (same_Some w last walk);
    count = refl;
    clients = λ c client place e p. refl;
    administrators = λ a part next e p. refl;
  }
  log-from (made ∷ moves) before w world given walk =
      at-offer made moves (log-from moves) before w world given (offer_at (parties_of script) w made.move) refl walk

-- ---- from where they begin

at-mapped : {X Y : Type 0} (f : X → Y) (xs : List X) (k : ℕ) (x : X) → slice_get xs k ≡ Some x
    → slice_get (map f xs) k ≡ Some (f x)
at-mapped f [] k x e = absurd cc
at-mapped f (y ∷ xs) zero x e = ap Some (ap f (same_Some y x e))
at-mapped f (y ∷ xs) (suc k) x e = at-mapped f xs k x e

stored-most : (steps : List Step) → length (stored_steps steps) ≤ length steps
stored-most steps = length-filter-le (λ (step : Step). is_stored step.reply) steps

pub left-log : (caps : Caps) (capacity : ℕ) (script : Script) (labels : Labels) (before : List Step) (s : State)
    (moves : List (Made Move)) (last : World Standing) → is_run caps capacity before ≡ true
    → replay caps (stored_steps before) ≡ Some s → s.work.setup.next_name ≡ 0
    → length before + length moves ≤ capacity
    → world_after_all (parties_of script) (first_world script labels s) moves ≡ Some last
    → IsObeyingRun caps capacity script before (first_world script labels s) moves last
left-log caps capacity script labels before s moves last run led none room walk = record {
  log = from.log;
  lines = from.lines;
  holds = and_from _ _ (and_from _ _ from.due
      (below-all (is_client_in_order script from.log) (length script.clients.items) clients))
      (below-all (is_administrator_in_order script from.log) (length script.administrators.items) administrators);
  runs = run-joined caps capacity [] before (steps_of from.log) run on.runs;
  state = ap (replay caps) (filter-append (λ (step : Step). is_stored step.reply) before (steps_of from.log))
      ∙ on.stored;
}
  where
    from : LogFrom script [] (first_world script labels s) moves last
    from = log-from caps script last moves [] (first_world script labels s)
        (first-good caps script labels (stored_steps before) s led none)
        (λ name l. absurd (omega (arith, l, none))) walk

    on : RunsOn caps capacity (stored_steps before) (steps_of from.log) last.state
    on = runs-on caps capacity last.state (steps_of from.log) (stored_steps before) s led from.leads
        (omega (arith, room, stored-most before, length-map from.log (λ (line : LogLine). line.step), from.count))

    clients : (c : ℕ) → c < length script.clients.items → is_client_in_order script from.log c ≡ true
    clients c l =
        let x = some-at script.clients.items c l in
        ap (passes (λ (client : ClientScript). submit_in_order script.entries.items
        (to_submit script.entries.items client.part) 0 (client_lines c from.log))) x.1
        ∙ from.clients c x.0 (place_first x.0) x.1 (at-mapped place_first script.clients.items c x.0 x.1)

    administrators : (a : ℕ) → a < length script.administrators.items
        → is_administrator_in_order script from.log a ≡ true
    administrators a l =
        let x = some-at script.administrators.items a l in
        ap (passes (λ (part : Part). do_in_order script.acts.items (to_do script.acts.items part)
        (administrator_lines a from.log))) x.1
        ∙ from.administrators a x.0 x.0.first x.1
        (at-mapped (λ (part : Part). part.first) script.administrators.items a x.0 x.1)
