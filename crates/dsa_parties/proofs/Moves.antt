-- Each kind of move keeps that a world is good.
use Rattle.std.proofs.Common.{◌≡◌, ℕ, ◌+◌, ◌<◌, ◌≤◌, ◌==◌, Bool, true, false, List, length, Option, Some, None}
use Rattle.std.proofs.Common.{refl, sym, ap, ◌∙◌, subst, ⊎_elim, arith}
use Rattle.std.specs.Prelude.{find, option_map, option_and_then, slice_set, nat_le}
use Rattle.std.proofs.lemmas.Bool.{cases_lt, cases_eq, and_parts, and_from, ltb-true, leb-true, le-leb}
use Rattle.std.proofs.lemmas.Bool.{false_from_ne_true}
use Rattle.std.proofs.lemmas.Option.{slice_get_past}
use Rattle.dsa_base.{specs.Lists.{In}, proofs.Tables.{not-both}}
use Rattle.dsa_desc.specs.declared.Descriptor.{Descriptor}
use Rattle.dsa_regs.specs.declared.Caps.{Caps}
use Rattle.dsa_store.specs.{declared.entry.Entry.{Entry}, Content.{HeldEntry, all_held}}
use Rattle.dsa_book.specs.declared.{answer.Reply.{Reply}, note.BatchNote.{BatchNote}, event.Event.{Event}}
use Rattle.dsa_book.specs.declared.event.Event.TheVariants.{Submit, Dispatch, Fetch, Start, Finish, Issue, Poll}
use Rattle.dsa_book.specs.declared.event.Event.TheVariants.{WriteQueue, WriteGroup, ClearError}
use Rattle.dsa_book.specs.declared.answer.Reply.TheVariants.{Submit, Dispatch, Fetch, Start, Finish, Issue, Poll, Write}
use Rattle.dsa_book.specs.declared.answer.{Reply.TheVariants.{Clear}, SubmitAnswer.TheVariants.{Accepted}}
use Rattle.dsa_book.specs.declared.answer.FetchAnswer.TheVariants.{Fetched}
use Rattle.dsa_book.specs.State.{State, ticket_of_entry}
use Rattle.dsa_book.specs.{Work.{note_at, in_progress, running_on, progress_list}, Machine.{next}}
use Rattle.dsa_book.specs.{Choice.{choice_of, chosen_cell}}
use Rattle.dsa_book.proofs.{Nexts.{next-is}, Gains.{named_by}}
use Rattle.dsa_laws.specs.{Change.{Change}, WellFormed.{IsWellFormed}}
use Rattle.dsa_laws.proofs.{Changes.{next-change}, Shapes.{In-cond, queues-same, engines-same}}
use Rattle.dsa_accounts.proofs.{Totals.{next-names}, NotedBatches.{noted-once}}
use Rattle.dsa_keys.specs.Labels.{Labels, with_next_label, labelled_reply, IsFreshLabel}
use Rattle.dsa_keys.specs.{Parties.{World}, Steps.{IsLabelled, event_by_label, next_by_label}}
use Rattle.dsa_keys.proofs.{Known.{IsKnown, known}, SameSteps.{named-other, named-next}, Engines.{progress-in}}
use Rattle.dsa_parties.specs.declared.places.{ClientPlace.{ClientPlace}, ClientTurn.{ClientTurn}}
use Rattle.dsa_parties.specs.declared.script.{ClientScript.{ClientScript}, Script.{Script}, ScriptEntry.{ScriptEntry}}
use Rattle.dsa_parties.specs.Scripts.{origin_submission, member_count, member_label, is_member_label}
use Rattle.dsa_parties.specs.Scripts.{is_boundary, are_in_order}
use Rattle.dsa_parties.specs.{Standing.{Standing, place_after, place_behind}, Offers.{submission_event}}
use Rattle.dsa_parties.specs.Good.{is_behind, is_unfetched}
use Rattle.dsa_parties.proofs.Fits.{all-at, IsFetchedAt, has-members, inside, from-inside, count-of, member-at}
use Rattle.dsa_parties.proofs.Fits.{HasMembers, member-label-at}
use Rattle.dsa_parties.proofs.Fits.{one-batch, not-submitted, behind-members, next-boundary}
use Rattle.dsa_parties.proofs.Stands.{fits, StandsIn, stand-at, stand-set, behind-within, behind-own, behind-set}
use Rattle.dsa_parties.proofs.Stands.{behind-new, behind-batch}
use Rattle.dsa_parties.proofs.States.{CountsOne, FetchLeaves, fetch-leaves}
use Rattle.dsa_parties.proofs.ClientTurns.{IsTurn, turn-submission, went-on, is_of_submission, named-on}
use Rattle.dsa_parties.proofs.Worlds.{Given, Good, OfWaiting, of-waiting, Waits, waited_before, is_new, waits}
use Rattle.dsa_parties.proofs.Worlds.{still-given, note-named}

-- ---- steps

-- what a step changes, and how many names it gives
pub record Makes (s s' : State) (reply : Reply) : Type 0 where
  pub change : Change s s'
  pub names : s'.work.setup.next_name ≡ s.work.setup.next_name + named_by reply

pub makes : (labels : Labels) (s s' : State) (event : Event) (reply : Reply)
    → next_by_label labels s event reply ≡ Some s' → Makes s s' reply
makes labels s s' event reply h = go (event_by_label labels s event) h
  where
    go : (o : Option Event) → option_and_then (λ found. next s found reply) o ≡ Some s' → Makes s s' reply
    go None h = absurd cc
    go (Some found) h =
        record { change = next-change s s' found reply h; names = next-names s s' found reply h }

named-most : (reply : Reply) → named_by reply ≤ 1
named-most (Submit (Accepted ticket)) = omega arith
named-most (Submit answer) = omega arith
named-most (Fetch (Fetched ticket)) = omega arith
named-most (Fetch answer) = omega arith
named-most (Dispatch answer) = omega arith
named-most (Start answer) = omega arith
named-most (Finish answer) = omega arith
named-most (Issue answer) = omega arith
named-most (Poll answer) = omega arith
named-most (Write answer) = omega arith
named-most (Clear answer) = omega arith

-- an event that brings in nothing
abbrev pub IsBare : Event → Type 0
IsBare (Submit client queue portal kind desc) = ⊥
IsBare (Fetch engine desc) = ⊥
IsBare event = Unit {0}

pub bare-names : (labels : Labels) (s s' : State) (event : Event) (reply : Reply) → IsBare event
    → next_by_label labels s event reply ≡ Some s' → named_by reply ≡ 0
bare-names labels s s' (Submit client queue portal kind desc) reply b h = absurd b
bare-names labels s s' (Fetch engine desc) reply b h = absurd b
bare-names labels s s' (Dispatch engine) reply b h =
    ap (λ (z : Reply × State). named_by z.0) (sym (next-is s s' (Dispatch engine) reply h).1)
bare-names labels s s' (Start engine) reply b h =
    ap (λ (z : Reply × State). named_by z.0) (sym (next-is s s' (Start engine) reply h).1)
bare-names labels s s' (Finish engine ticket outcome) reply b h =
    go (find (λ (x : HeldEntry). labels x.1.name == ticket.name) (running_on s.work engine)) h
  where
    go : (o : Option HeldEntry) → option_and_then (λ found. next s found reply)
        (option_map (λ (x : HeldEntry). Finish engine (ticket_of_entry x) outcome) o) ≡ Some s' → named_by reply ≡ 0
    go None h = absurd cc
    go (Some x) h = ap (λ (z : Reply × State). named_by z.0)
        (sym (next-is s s' (Finish engine (ticket_of_entry x) outcome) reply h).1)
bare-names labels s s' (Issue command) reply b h =
    ap (λ (z : Reply × State). named_by z.0) (sym (next-is s s' (Issue command) reply h).1)
bare-names labels s s' Poll reply b h =
    ap (λ (z : Reply × State). named_by z.0) (sym (next-is s s' Poll reply h).1)
bare-names labels s s' (WriteQueue queue config) reply b h =
    ap (λ (z : Reply × State). named_by z.0) (sym (next-is s s' (WriteQueue queue config) reply h).1)
bare-names labels s s' (WriteGroup group config) reply b h =
    ap (λ (z : Reply × State). named_by z.0) (sym (next-is s s' (WriteGroup group config) reply h).1)
bare-names labels s s' ClearError reply b h =
    ap (λ (z : Reply × State). named_by z.0) (sym (next-is s s' ClearError reply h).1)

-- what is in progress runs
progress-runs : (caps : Caps) (s : State) → IsWellFormed caps s → (e : ℕ) (x : HeldEntry)
    → In x (in_progress s.work e) → x.1.running ≡ true
progress-runs caps s h e x i =
    let a = In-cond _ x _ i in
    let queues = queues-same h.shape in
    let engines = engines-same h.shape in
    let below = ltb-true e s.work.setup.caps.engines a.0 in
    (h.entries.placed (progress_list s.work.setup e) x a.1).running (omega (arith, queues))
    (omega (arith, queues, engines, below))

-- ---- labels

no-unfetched : (entries : List ScriptEntry) (labels : Labels) (label : ℕ)
    → ((batch : ℕ) → is_member_label entries batch label ≡ true → ⊥) → (o : Option BatchNote)
    → is_unfetched entries labels label o ≡ false
no-unfetched entries labels label free None = refl
no-unfetched entries labels label free (Some note) =
    false_from_ne_true _ (λ t. free (labels note.batch) (and_parts _ _ t).1)

module _ (caps : Caps) (script : Script) (w : World Standing) (h : IsLabelled caps w.labels w.state)
    (g : Good script w) where
  abbrev entries : List ScriptEntry
  entries = script.entries.items

  abbrev next_name : ℕ
  next_name = w.state.work.setup.next_name

  abbrev named : ℕ → Labels
  named new = with_next_label w.labels w.state new

  order : are_in_order entries ≡ true
  order = (fits script).order

  -- old names keep their labels
  old-name : (name new : ℕ) → name < next_name → named new name ≡ w.labels name
  old-name name new l = named-other w.labels next_name new name l

  new-name : (new : ℕ) → named new next_name ≡ new
  new-name new = named-next w.labels next_name new

  -- names after a step: the old ones, and one that is new
  names-after : (s' : State) (places' : List ClientPlace) (new : ℕ) (reply : Reply)
      → s'.work.setup.next_name ≡ next_name + named_by reply
      → ((name : ℕ) → name < next_name → Given script places' (named new) s'.work (w.labels name))
      → (0 < named_by reply → Given script places' (named new) s'.work new)
      → (name : ℕ) → name < s'.work.setup.next_name → Given script places' (named new) s'.work (named new name)
  names-after s' places' new reply names old fresh name l = ⊎_elim
      (λ below. subst (Given script places' (named new) s'.work) (sym (old-name name new below)) (old name below))
      (λ above.
      let is : next_name ≡ name = omega (arith, above, l, names, named-most reply) in
      subst (λ n. Given script places' (named new) s'.work (named new n)) is
      (subst (Given script places' (named new) s'.work) (sym (new-name new))
      (fresh (omega (arith, above, l, names)))))
      (cases_lt name next_name)

  -- ---- a move that brings in nothing

  no-members : (label : ℕ) → is_member_label entries (length entries) label ≡ true → ⊥
  no-members label t =
      let i = inside entries (length entries) label t in
      let m = has-members entries (length entries) (omega (arith, i.above, i.below)) in
      let no : None ≡ Some m.submission =
      ap (option_and_then (λ (entry : ScriptEntry). origin_submission entry.origin))
      (sym (slice_get_past entries (length entries) (omega arith))) ∙ m.at in
      absurd cc

  pub spare-fresh : IsFreshLabel w.labels w.state (length entries)
  spare-fresh name l e =
      let b = (g.given name l).behind in
      let r = behind-within entries 0 (length entries) script.clients.items w.places.clients (w.labels name)
      (fits script).parts g.within b in
      omega (arith, r.1, e)

  pub bare-good : (event : Event) (reply : Reply) (s' : State) (administrators : List ℕ) (came : List Bool)
      → IsBare event → next_by_label (named (length entries)) w.state event reply ≡ Some s'
      → Good script (record {
        places = record { clients = w.places.clients; administrators = administrators; came = came };
        labels = named (length entries);
        state = s';
      })
  bare-good event reply s' administrators came bare step =
      let m = makes (named (length entries)) w.state s' event reply step in
      let none = bare-names (named (length entries)) w.state s' event reply bare step in
      record {
        within = g.within;
        given = names-after s' w.places.clients (length entries) reply m.names
            (λ name l. still-given caps script w h s' m.change (length entries) (w.labels name) w.places.clients
            (g.given name l) (g.given name l).behind (no-members (w.labels name)))
            (λ l. absurd (omega (arith, l, none)));
      }

  -- ---- a client's move

  module _ (c : ℕ) (turn : ClientTurn) (t : IsTurn script w.places c turn) where
    new : ℕ
    new = turn.place.next

    stands : StandsIn entries t.client turn.place
    stands = stand-at entries script.clients.items w.places.clients c t.client turn.place g.within t.at_client
        t.at_place

    whole : turn.place.next + turn.submission.members < t.client.part.end
    whole = behind-members entries order turn.place.next t.client.part.end turn.submission (turn-submission t)
        (all-at (λ (client : ClientScript). is_boundary entries client.part.end) script.clients.items c t.client
        (fits script).ends t.at_client) t.below

    own : (label : ℕ) → is_behind script.clients.items w.places.clients label ≡ true
        → turn.place.next ≤ label → label < t.client.part.end → ⊥
    own label b from l =
        let first = stands.first in
        let below = behind-own entries 0 (length entries) script.clients.items w.places.clients c label t.client
        turn.place (fits script).parts g.within t.at_client t.at_place (omega (arith, first, from)) l b in
        omega (arith, below, from)

    pub turn-fresh : IsFreshLabel w.labels w.state turn.place.next
    turn-fresh name l e = own (w.labels name) (g.given name l).behind (omega (arith, e))
        (omega (arith, e, t.below))

    turn-apart : (name : ℕ) → name < next_name
        → is_member_label entries turn.place.next (w.labels name) ≡ true → ⊥
    turn-apart name l m =
        let i = inside entries turn.place.next (w.labels name) m in
        let count = count-of entries turn.place.next turn.submission (turn-submission t) in
        own (w.labels name) (g.given name l).behind (omega (arith, i.above))
        (omega (arith, i.below, count, whole))

    no-member : (batch : ℕ) → is_member_label entries batch turn.place.next ≡ true → ⊥
    no-member batch m = not-submitted entries order batch turn.place.next turn.submission
        (member-label-at entries order batch turn.place.next m) (turn-submission t)

    behind-place : (reply : Reply) → turn.place.next ≤ (place_after reply turn).next
    behind-place reply = ⊎_elim (λ e. omega (arith, e)) (λ e. omega (arith, e)) (went-on reply turn)

    stands-after : (reply : Reply) → StandsIn entries t.client (place_after reply turn)
    stands-after reply = ⊎_elim
        (λ e. record {
          first = omega (arith, stands.first, e);
          end = omega (arith, stands.end, e);
          boundary = ap (is_boundary entries) e ∙ stands.boundary;
        })
        (λ e. record {
          first = omega (arith, stands.first, e);
          end = omega (arith, whole, e);
          boundary = ap (is_boundary entries) e
              ∙ next-boundary entries order turn.place.next turn.submission (turn-submission t);
        })
        (went-on reply turn)

    module _ (reply : Reply) (s' : State)
        (step : next_by_label (named turn.place.next) w.state (submission_event turn) reply ≡ Some s') where
      abbrev pub place' : ClientPlace
      place' = place_after (labelled_reply (named turn.place.next) reply) turn

      abbrev pub places' : List ClientPlace
      places' = slice_set w.places.clients c place'

      is-submission : is_of_submission reply ≡ true
      is-submission = ap (λ (z : Reply × State). is_of_submission z.0)
          (sym (next-is w.state s' (submission_event turn) reply step).1)

      given-new : 0 < named_by reply → Given script places' (named turn.place.next) s'.work turn.place.next
      given-new l =
          let on : place' ≡ place_behind turn = named-on (named turn.place.next) reply turn is-submission l in
          let past = ap (λ (z : ClientPlace). z.next) on in
          record {
            behind = behind-new script.clients.items w.places.clients c turn.place.next t.client turn.place place'
                t.at_client t.at_place stands.first (omega (arith, past));
            waiting = λ x i. false_from_ne_true _ (λ b. no-member _
                (of-waiting entries (named turn.place.next) turn.place.next x b).member);
            notes = λ e. no-unfetched entries (named turn.place.next) turn.place.next no-member
                (note_at s'.work e);
          }

      pub client-good : (came : List Bool) → Good script (record {
        places = record w.places { clients = places'; came = came };
        labels = named turn.place.next;
        state = s';
      })
      client-good came =
          let m = makes (named turn.place.next) w.state s' (submission_event turn) reply step in
          let later = behind-place (labelled_reply (named turn.place.next) reply) in
          record {
            within = stand-set entries script.clients.items w.places.clients c t.client place' g.within t.at_client
                (stands-after (labelled_reply (named turn.place.next) reply));
            given = names-after s' places' turn.place.next reply m.names
                (λ name l. still-given caps script w h s' m.change turn.place.next (w.labels name) places'
                (g.given name l)
                (behind-set script.clients.items w.places.clients c (w.labels name) turn.place place' t.at_place
                later (g.given name l).behind)
                (turn-apart name l))
                given-new;
          }

  -- ---- a fetch

  pub note-fresh : (e : ℕ) (note : BatchNote) → note_at w.state.work e ≡ Some note
      → note.fetched < member_count entries (w.labels note.batch)
      → IsFreshLabel w.labels w.state (member_label (w.labels note.batch) note.fetched)
  note-fresh e note at left name l q =
      let missing : is_unfetched entries w.labels (w.labels name) (Some note) ≡ true =
      and_from _ _
      (le-leb (member_label (w.labels note.batch) note.fetched) (w.labels name) (omega (arith, q)))
      (from-inside entries (w.labels note.batch) (w.labels name) (omega (arith, q)) (omega (arith, q, left))) in
      not-both _ missing (ap (is_unfetched entries w.labels (w.labels name)) (sym at) ∙ (g.given name l).notes e)

  module _ (e : ℕ) (note : BatchNote) (at : note_at w.state.work e ≡ Some note)
      (left : note.fetched < member_count entries (w.labels note.batch)) (desc : Descriptor) (reply : Reply)
      (s' : State)
      (step : next_by_label (named (member_label (w.labels note.batch) note.fetched)) w.state (Fetch e desc) reply
      ≡ Some s') where
    abbrev batch : ℕ
    batch = w.labels note.batch

    abbrev member : ℕ
    member = member_label batch note.fetched

    is-known : IsKnown w.labels w.state.work
    is-known = known caps w.labels w.state h.well_formed h.distinct

    old-batch : note.batch < next_name
    old-batch = note-named caps w.labels w.state h e note at

    has : HasMembers entries batch
    has = has-members entries batch (omega (arith, left))

    row : IsFetchedAt entries batch member
    row = member-at entries order batch note.fetched has.submission has.at (omega (arith, left, has.count))

    -- no member has members
    alone : (label : ℕ) → is_member_label entries member label ≡ true → ⊥
    alone label m =
        let i = inside entries member label m in
        let more = has-members entries member (omega (arith, i.above, i.below)) in
        not-submitted entries order batch member more.submission row more.at

    -- the new member is of this batch alone
    of-batch : (other : ℕ) → is_member_label entries other member ≡ true → other ≡ batch
    of-batch other m = one-batch entries order other batch member (member-label-at entries order other member m) row

    -- which does not wait
    runs : (y : HeldEntry) → In y (all_held w.state.work.content) → w.labels y.1.name ≡ batch
        → y.1.running ≡ true
    runs y i q =
        let b = is-known.batches e note at in
        let held = progress-in w.state.work e b.0 b.1.0 in
        let same : y ≡ b.0 = is-known.labels y b.0 i held (q ∙ ap w.labels b.1.1) in
        ap (λ (z : HeldEntry). z.1.running) same ∙ progress-runs caps w.state h.well_formed e b.0 b.1.0

    waiting : (x : HeldEntry) → In x (all_held s'.work.content) → OfWaiting entries (named member) member x → ⊥
    waiting x i o = was (waits caps script w h s' change member x i o.waits)
      where
        change : Change w.state s'
        change = (makes (named member) w.state s' (Fetch e desc) reply step).change

        was : Waits caps script w h s' change member x → ⊥
        was (waited_before y j q name) =
            not-both _ (runs y j (sym name ∙ of-batch _ o.member))
            (ap (λ (z : Entry). z.running) q ∙ o.waits)
        was (is_new q) = alone member (subst (λ a. is_member_label entries a member ≡ true) q o.member)

    left-notes : FetchLeaves w.state.work e note s'.work
    left-notes =
        let is = (next-is w.state s' (Fetch e desc) reply step).1 in
        subst (λ (z : Reply × State). FetchLeaves w.state.work e note z.1.work) is
        (fetch-leaves w.state.work e desc (chosen_cell (choice_of reply)) note at)

    module _ (counts : CountsOne w.state.work s'.work e note) where
      here : is_unfetched entries (named member) member (Some (record note { fetched = note.fetched + 1 })) ≡ true → ⊥
      here t =
          let a = and_parts (nat_le (member_label (named member note.batch) (note.fetched + 1)) member)
          (is_member_label entries (named member note.batch) member) t in
          let from = leb-true (member_label (named member note.batch) (note.fetched + 1)) member a.0 in
          omega (arith, from, old-name note.batch member old-batch)

      there : (j : ℕ) → (j ≡ e → ⊥) → (o : BatchNote) → note_at w.state.work j ≡ Some o
          → is_unfetched entries (named member) member (Some o) ≡ true → ⊥
      there j ne o is t =
          let a = and_parts (nat_le (member_label (named member o.batch) o.fetched) member)
          (is_member_label entries (named member o.batch) member) t in
          let below = note-named caps w.labels w.state h j o is in
          let same = h.distinct o.batch note.batch below old-batch
          (sym (old-name o.batch member below) ∙ of-batch _ a.1) in
          ne (noted-once h.well_formed j e o note is at same)

      others : (j : ℕ) → (j ≡ e → ⊥) → (o : Option BatchNote) → note_at w.state.work j ≡ o
          → is_unfetched entries (named member) member o ≡ false
      others j ne None is = refl
      others j ne (Some o) is = false_from_ne_true _ (there j ne o is)

      notes : (j : ℕ) → is_unfetched entries (named member) member (note_at s'.work j) ≡ false
      notes j = ⊎_elim
          (λ same. ap (λ k. is_unfetched entries (named member) member (note_at s'.work k)) same
          ∙ ap (is_unfetched entries (named member) member) counts.here ∙ false_from_ne_true _ here)
          (λ ne. ap (is_unfetched entries (named member) member) (counts.others j ne)
          ∙ others j ne (note_at w.state.work j) refl)
          (cases_eq j e)

    given-member : 0 < named_by reply → Given script w.places.clients (named member) s'.work member
    given-member l = ⊎_elim
        (λ same. absurd (omega (
          arith,
          l,
          same,
          (makes (named member) w.state s' (Fetch e desc) reply step).names,
        )))
        (λ counts. record {
          behind = behind-batch entries order script.clients.items w.places.clients batch note.fetched has.submission
              has.at (omega (arith, left, has.count)) g.within (g.given note.batch old-batch).behind;
          waiting = λ x i. false_from_ne_true _
              (λ b. waiting x i (of-waiting entries (named member) member x b));
          notes = notes counts;
        })
        left-notes

    pub fetch-good : (came : List Bool)
        → Good script (record { places = record w.places { came = came }; labels = named member; state = s' })
    fetch-good came =
        let m = makes (named member) w.state s' (Fetch e desc) reply step in
        record {
          within = g.within;
          given = names-after s' w.places.clients member reply m.names
              (λ name l. still-given caps script w h s' m.change member (w.labels name) w.places.clients
              (g.given name l) (g.given name l).behind (alone (w.labels name)))
              given-member;
        }
