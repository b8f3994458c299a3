-- What is asked for by each move: a turn of a client, a member, or what brings in nothing.
use Rattle.std.proofs.Common.{◌≡◌, ℕ, ◌<◌, Bool, true, false, cond, not, ◌&&◌, List, get_or, slice_get}
use Rattle.std.proofs.Common.{Option, Some, None, refl, sym, ap, ◌∙◌, subst}
use Rattle.std.specs.Prelude.{option_map, option_and_then, nat_lt}
use Rattle.std.proofs.{Math.ListN.{get_or-map}, lemmas.{Bool.{and_parts, ltb-true}, Option.{same_Some}}}
use Rattle.dsa_base.specs.Rows.{when}
use Rattle.dsa_book.specs.declared.{note.BatchNote.{BatchNote}, event.Event.{Event}}
use Rattle.dsa_book.specs.declared.event.Event.TheVariants.{Dispatch, Fetch, Start, Finish, Issue, Poll}
use Rattle.dsa_book.specs.declared.event.Event.TheVariants.{WriteQueue, WriteGroup, ClearError}
use Rattle.dsa_book.specs.{State.{State}, Work.{note_at, is_all_fetched}}
use Rattle.dsa_keys.specs.{Labels.{Labels, labelled_note}, Key.{key}, Parties.{Offer, World, offer_at}}
use Rattle.dsa_parties.specs.declared.places.{ClientTurn.{ClientTurn}, NextMember.{NextMember}}
use Rattle.dsa_parties.specs.declared.places.Move.{Move}
use Rattle.dsa_parties.specs.declared.places.Move.TheVariants.{Client, Administrator, Dispatch, Fetch, Start, Finish}
use Rattle.dsa_parties.specs.declared.script.{Act.{Act}, Script.{Script}, ScriptEntry.{ScriptEntry}}
use Rattle.dsa_parties.specs.declared.script.Act.TheVariants.{Issue, Poll, WriteQueue, WriteGroup, ClearError}
use Rattle.dsa_parties.specs.Scripts.{member_count, member_label}
use Rattle.dsa_parties.specs.Standing.{Standing, turn_of, act_of}
use Rattle.dsa_parties.specs.Offers.{act_event, bare_offer, has_engine, may_give, next_member, label_ticket}
use Rattle.dsa_parties.specs.Offers.{submission_event, parties_of}
use Rattle.dsa_parties.proofs.Moves.{IsBare}

-- the next member of a note by labels
pub record IsNextMember (entries : List ScriptEntry) (labels : Labels) (note : BatchNote) (next : NextMember) : Type 0
  where
    pub left : note.fetched < member_count entries (labels note.batch)
    pub label : next.label ≡ member_label (labels note.batch) note.fetched
    pub entry : ScriptEntry
    pub at : slice_get entries next.label ≡ Some entry
    pub desc : entry.desc ≡ next.desc

is-next-member : (entries : List ScriptEntry) (labels : Labels) (note : BatchNote) (next : NextMember)
    → next_member entries (labelled_note labels note) ≡ Some next → IsNextMember entries labels note next
is-next-member entries labels note next h =
    tested (not (is_all_fetched note) && nat_lt note.fetched (member_count entries (labels note.batch))) refl h
  where
    label : ℕ
    label = member_label (labels note.batch) note.fetched

    found : note.fetched < member_count entries (labels note.batch) → (o : Option ScriptEntry)
        → slice_get entries label ≡ o
        → option_map (λ (entry : ScriptEntry). record { label = label; desc = entry.desc }) o ≡ Some next
        → IsNextMember entries labels note next
    found l None e h = absurd cc
    found l (Some entry) e h = subst (IsNextMember entries labels note) (same_Some _ next h)
        (record { left = l; label = refl; entry = entry; at = e; desc = refl })

    tested : (b : Bool)
        → (not (is_all_fetched note) && nat_lt note.fetched (member_count entries (labels note.batch))) ≡ b
        → cond b (option_map (λ (entry : ScriptEntry). record { label = label; desc = entry.desc })
        (slice_get entries label)) None ≡ Some next
        → IsNextMember entries labels note next
    tested false e h = absurd cc
    tested true e h = found (ltb-true _ _ (and_parts _ _ e).1) (slice_get entries label) refl h

-- a client's turn
pub record AsksTurn (script : Script) (w : World Standing) (move : Move) (o : Offer) : Type 0 where
  pub client : ℕ
  pub turn : ClientTurn
  pub is_turn : turn_of script w.places client ≡ Some turn
  pub is_move : move ≡ Client client
  pub offer : o ≡ record { event = submission_event turn; label = turn.place.next }

-- the next member of an engine's batch
pub record AsksMember (script : Script) (w : World Standing) (move : Move) (o : Offer) : Type 0 where
  pub engine : ℕ
  pub note : BatchNote
  pub next : NextMember
  pub at : note_at w.state.work engine ≡ Some note
  pub is_next : IsNextMember script.entries.items w.labels note next
  pub is_move : move ≡ Fetch engine
  pub offer : o ≡ record { event = Fetch engine next.desc; label = next.label }

abbrev pub IsNoClient : Move → Type 0
IsNoClient (Client c) = ⊥
IsNoClient move = Unit {0}

-- what brings in nothing; no client moves
pub record AsksBare (script : Script) (w : World Standing) (move : Move) (o : Offer) : Type 0 where
  pub event : Event
  pub is_bare : IsBare event
  pub offer : o ≡ bare_offer script event
  pub calm : IsNoClient move

pub data AskOf (script : Script) (w : World Standing) (move : Move) (o : Offer) : Type 0 where
  asks_turn : AsksTurn script w move o → AskOf script w move o
  asks_member : AsksMember script w move o → AskOf script w move o
  asks_bare : AsksBare script w move o → AskOf script w move o

when-some : {X : Type 0} (b : Bool) (x y : X) → when b x ≡ Some y → x ≡ y
when-some true x y h = same_Some x y h
when-some false x y h = absurd cc

key-note : (labels : Labels) (s : State) (e : ℕ)
    → get_or (key labels s).notes e None ≡ option_map (labelled_note labels) (note_at s.work e)
key-note labels s e = get_or-map (option_map (labelled_note labels)) s.work.notes e None

pub asks : (script : Script) (w : World Standing) (move : Move) (o : Offer)
    → offer_at (parties_of script) w move ≡ Some o → AskOf script w move o
asks script w (Client c) o h = go (turn_of script w.places c) refl h
  where
    go : (t : Option ClientTurn) → turn_of script w.places c ≡ t
        → option_map (λ (turn : ClientTurn). record { event = submission_event turn; label = turn.place.next }) t
        ≡ Some o → AskOf script w (Client c) o
    go None e h = absurd cc
    go (Some turn) e h = asks_turn (record {
      client = c;
      turn = turn;
      is_turn = e;
      is_move = refl;
      offer = sym (same_Some _ o h);
    })
asks script w (Administrator a) o h = go (act_of script w.places a) h
  where
    bare : (act : Act) → IsBare (act_event act)
    bare (Issue command again) = tt
    bare (Poll until) = tt
    bare (WriteQueue queue config) = tt
    bare (WriteGroup group config) = tt
    bare ClearError = tt

    go : (t : Option Act) → option_map (λ act. bare_offer script (act_event act)) t ≡ Some o
        → AskOf script w (Administrator a) o
    go None h = absurd cc
    go (Some act) h = asks_bare (record {
      event = act_event act;
      is_bare = bare act;
      offer = sym (same_Some _ o h);
      calm = tt;
    })
asks script w (Dispatch e) o h = asks_bare (record {
  event = Dispatch e;
  is_bare = tt;
  offer = sym (when-some (has_engine script e) _ o h);
  calm = tt;
})
asks script w (Fetch e) o h = engine (has_engine script e) h
  where
    member : (note : BatchNote) → note_at w.state.work e ≡ Some note → (t : Option NextMember)
        → next_member script.entries.items (labelled_note w.labels note) ≡ t
        → option_map (λ (next : NextMember). record { event = Fetch e next.desc; label = next.label }) t ≡ Some o
        → AskOf script w (Fetch e) o
    member note n None q h = absurd cc
    member note n (Some next) q h = asks_member (record {
      engine = e;
      note = note;
      next = next;
      at = n;
      is_next = is-next-member script.entries.items w.labels note next q;
      is_move = refl;
      offer = sym (same_Some _ o h);
    })

    noted : (t : Option BatchNote) → note_at w.state.work e ≡ t
        → option_map (λ (next : NextMember). record { event = Fetch e next.desc; label = next.label })
        (option_and_then (next_member script.entries.items) (option_map (labelled_note w.labels) t)) ≡ Some o
        → AskOf script w (Fetch e) o
    noted None n h = absurd cc
    noted (Some note) n h =
        member note n (next_member script.entries.items (labelled_note w.labels note)) refl h

    engine : (b : Bool)
        → cond b (option_map (λ (next : NextMember). record { event = Fetch e next.desc; label = next.label })
        (option_and_then (next_member script.entries.items) (get_or (key w.labels w.state).notes e None))) None
        ≡ Some o → AskOf script w (Fetch e) o
    engine false h = absurd cc
    engine true h = noted (note_at w.state.work e) refl
        (ap (λ t. option_map (λ (next : NextMember). record { event = Fetch e next.desc; label = next.label })
        (option_and_then (next_member script.entries.items) t)) (sym (key-note w.labels w.state e)) ∙ h)
asks script w (Start e) o h = asks_bare (record {
  event = Start e;
  is_bare = tt;
  offer = sym (when-some (has_engine script e) _ o h);
  calm = tt;
})
asks script w (Finish e label outcome) o h = asks_bare (record {
  event = Finish e (label_ticket label) outcome;
  is_bare = tt;
  offer = sym (when-some (has_engine script e && may_give script.entries.items label outcome) _ o h);
  calm = tt;
})
