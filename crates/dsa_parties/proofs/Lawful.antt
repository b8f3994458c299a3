-- The parties of a script are lawful.
use Rattle.std.proofs.Common.{◌≡◌, ℕ, Bool, true, List, [], ◌∷◌, length, map, drop, Option, Some, None, refl, sym, ap}
use Rattle.std.proofs.Common.{◌∙◌, subst, arith, slice_get, not}
use Rattle.std.specs.{Prelude.{option_map, option_and_then, slice_set}, Option.{option_map_or}, List.{list_all}}
use Rattle.std.proofs.lemmas.{Bool.{and_parts, and_from, le-leb}, Option.{same_Some}}
use Rattle.dsa_base.specs.Rows.{passes}
use Rattle.dsa_regs.specs.declared.Caps.{Caps}
use Rattle.dsa_book.specs.declared.{answer.Reply.{Reply}, event.Step.{Step}}
use Rattle.dsa_book.specs.{State.{State}, Machine.{replay}}
use Rattle.dsa_book.specs.declared.{note.BatchNote.{BatchNote}, event.Event.{Event, TheVariants.{Fetch}}}
use Rattle.dsa_book.specs.Work.{note_at}
use Rattle.dsa_keys.specs.Labels.{Labels, labelled_reply, labelled_row, with_next_label, IsFreshLabel}
use Rattle.dsa_keys.specs.Parties.{Offer, World, offer_at, labels_for, world_with, world_after_offer}
use Rattle.dsa_keys.specs.{Parties.{AreLawful, IsGoodWorld}, Steps.{IsLabelled, next_by_label}}
use Rattle.dsa_keys.proofs.Labelled.{histories-labelled}
use Rattle.dsa_parties.specs.declared.places.{ClientTurn.{ClientTurn}, NextMember.{NextMember}}
use Rattle.dsa_parties.specs.declared.script.Origin.{Origin, TheVariants.{Submitted, Fetched}}
use Rattle.dsa_parties.specs.declared.places.Move.{Move}
use Rattle.dsa_parties.specs.declared.places.Move.TheVariants.{Client, Administrator, Dispatch, Fetch, Start, Finish}
use Rattle.dsa_parties.specs.declared.script.{ClientScript.{ClientScript}, Script.{Script}}
use Rattle.dsa_parties.specs.declared.script.ScriptEntry.{ScriptEntry}
use Rattle.dsa_parties.specs.Scripts.{are_in_order, are_parts, is_boundary, is_member_origin}
use Rattle.dsa_parties.specs.Standing.{Standing, turn_of, place_after}
use Rattle.dsa_parties.specs.Watches.{came_after}
use Rattle.dsa_parties.specs.Offers.{parties_of, submission_event, bare_offer}
use Rattle.dsa_parties.specs.Good.{stand_within, is_good, first_world}
use Rattle.dsa_parties.proofs.Asked.{AskOf, asks_turn, asks_member, asks_bare, asks}
use Rattle.dsa_parties.proofs.Asked.{IsNoClient, IsNextMember}
use Rattle.dsa_parties.proofs.Fits.{placed}
use Rattle.dsa_parties.proofs.Moves.{IsBare, bare-good, client-good, fetch-good, spare-fresh, turn-fresh, note-fresh}
use Rattle.dsa_parties.proofs.Stands.{fits, first-part, parts_of}
use Rattle.dsa_parties.proofs.{ClientTurns.{is-turn}, Worlds.{Good, good-of, of-good}}

module _ (caps : Caps) (script : Script) (w : World Standing) (h : IsLabelled caps w.labels w.state)
    (g : Good script w) where
  fresh : (move : Move) (o : Offer) → AskOf script w move o → IsFreshLabel w.labels w.state o.label
  fresh move o (asks_turn a) = subst (λ (z : Offer). IsFreshLabel w.labels w.state z.label) (sym a.offer)
      (turn-fresh caps script w h g a.client a.turn (is-turn script w.places a.client a.turn a.is_turn))
  fresh move o (asks_member a) = subst (λ (z : Offer). IsFreshLabel w.labels w.state z.label) (sym a.offer)
      (subst (IsFreshLabel w.labels w.state) (sym a.is_next.label)
      (note-fresh caps script w h g a.engine a.note a.at a.is_next.left))
  fresh move o (asks_bare a) = subst (λ (z : Offer). IsFreshLabel w.labels w.state z.label) (sym a.offer)
      (spare-fresh caps script w h g)

  -- the world after an offer is good
  abbrev IsGoodAfter : Move → Reply → State → Offer → Type 0
  IsGoodAfter move reply s' o = next_by_label (labels_for w o) w.state o.event reply ≡ Some s'
      → Good script (world_with (parties_of script) w move reply o s')

  kept-turn : (c : ℕ) (turn : ClientTurn) → turn_of script w.places c ≡ Some turn → (reply : Reply) (s' : State)
      → IsGoodAfter (Client c) reply s' (record { event = submission_event turn; label = turn.place.next })
  kept-turn c turn is reply s' step = subst
      (λ (t : Option ClientTurn). Good script (record {
        places = record w.places {
          clients = option_map_or (λ turn. slice_set w.places.clients c (place_after told turn)) t w.places.clients;
          came = came';
        };
        labels = labels';
        state = s';
      }))
      (sym is)
      (client-good caps script w h g c turn (is-turn script w.places c turn is) reply s' step came')
    where
      labels' : Labels
      labels' = with_next_label w.labels w.state turn.place.next

      told : Reply
      told = labelled_reply labels' reply

      came' : List Bool
      came' = came_after script w.places (Client c) told (map (labelled_row labels')
          (drop (length w.state.work.fates) s'.work.fates))

  kept-bare : (move : Move) (event : Event) → IsBare event → IsNoClient move → (reply : Reply) (s' : State)
      → IsGoodAfter move reply s' (bare_offer script event)
  kept-bare (Client c) event bare calm reply s' step = absurd calm
  kept-bare (Administrator a) event bare calm reply s' step = bare-good caps script w h g event reply s' _ _ bare step
  kept-bare (Dispatch e) event bare calm reply s' step = bare-good caps script w h g event reply s' _ _ bare step
  kept-bare (Fetch e) event bare calm reply s' step = bare-good caps script w h g event reply s' _ _ bare step
  kept-bare (Start e) event bare calm reply s' step = bare-good caps script w h g event reply s' _ _ bare step
  kept-bare (Finish e label outcome) event bare calm reply s' step =
      bare-good caps script w h g event reply s' _ _ bare step

  kept-member : (e : ℕ) (note : BatchNote) (next : NextMember) → note_at w.state.work e ≡ Some note
      → IsNextMember script.entries.items w.labels note next → (reply : Reply) (s' : State)
      → IsGoodAfter (Fetch e) reply s' (record { event = Fetch e next.desc; label = next.label })
  kept-member e note next at is reply s' step =
      subst (λ label. Good script (record {
        places = record w.places { came = came' };
        labels = with_next_label w.labels w.state label;
        state = s';
      }))
      (sym is.label)
      (fetch-good caps script w h g e note at is.left next.desc reply s'
      (subst (λ label. next_by_label (with_next_label w.labels w.state label) w.state (Fetch e next.desc) reply
      ≡ Some s') is.label step) came')
    where
      labels' : Labels
      labels' = with_next_label w.labels w.state next.label

      came' : List Bool
      came' = came_after script w.places (Fetch e) (labelled_reply labels' reply) (map (labelled_row labels')
          (drop (length w.state.work.fates) s'.work.fates))

  kept : (move : Move) (o : Offer) (reply : Reply) (s' : State) → AskOf script w move o → IsGoodAfter move reply s' o
  kept move o reply s' (asks_turn a) =
      subst (λ m. IsGoodAfter m reply s' o) (sym a.is_move)
      (subst (IsGoodAfter (Client a.client) reply s') (sym a.offer)
      (kept-turn a.client a.turn a.is_turn reply s'))
  kept move o reply s' (asks_member a) =
      subst (λ m. IsGoodAfter m reply s' o) (sym a.is_move)
      (subst (IsGoodAfter (Fetch a.engine) reply s') (sym a.offer)
      (kept-member a.engine a.note a.next a.at a.is_next reply s'))
  kept move o reply s' (asks_bare a) =
      subst (IsGoodAfter move reply s') (sym a.offer) (kept-bare move a.event a.is_bare a.calm reply s')

pub lawful : (caps : Caps) (script : Script) → AreLawful caps (parties_of script) (is_good script)
lawful caps script = record {
  fresh = λ w move o h good e. fresh caps script w h (good-of script w good) move o (asks script w move o e);
  kept = λ w w' move reply h good e. go w w' move reply h good (offer_at (parties_of script) w move) refl e;
}
  where
    by-state : (w w' : World Standing) (move : Move) (reply : Reply) → IsLabelled caps w.labels w.state
        → is_good script w ≡ true → (o : Offer) → offer_at (parties_of script) w move ≡ Some o → (p : Option State)
        → next_by_label (labels_for w o) w.state o.event reply ≡ p
        → option_map (world_with (parties_of script) w move reply o) p ≡ Some w' → is_good script w' ≡ true
    by-state w w' move reply h good o e None q step = absurd cc
    by-state w w' move reply h good o e (Some s') q step =
        subst (λ z. is_good script z ≡ true) (same_Some _ w' step)
        (of-good script (world_with (parties_of script) w move reply o s')
        (kept caps script w h (good-of script w good) move o reply s' (asks script w move o e) q))

    go : (w w' : World Standing) (move : Move) (reply : Reply) → IsLabelled caps w.labels w.state
        → is_good script w ≡ true → (p : Option Offer) → offer_at (parties_of script) w move ≡ p
        → option_and_then (world_after_offer (parties_of script) w move reply) p ≡ Some w'
        → is_good script w' ≡ true
    go w w' move reply h good None e step = absurd cc
    go w w' move reply h good (Some o) e step =
        by-state w w' move reply h good o e (next_by_label (labels_for w o) w.state o.event reply) refl step

-- ---- where they begin

zero-boundary : (entries : List ScriptEntry) → are_in_order entries ≡ true → is_boundary entries 0 ≡ true
zero-boundary entries order = go (slice_get entries 0) refl
  where
    by-origin : (entry : ScriptEntry) → slice_get entries 0 ≡ Some entry → (o : Origin) → entry.origin ≡ o
        → not (is_member_origin o) ≡ true
    by-origin entry at (Submitted s) q = refl
    by-origin entry at (Fetched batch) q =
        let i = placed entries order batch 0 (record { entry = entry; at = at; origin = q }) in
        absurd (omega (arith, i.above))

    go : (o : Option ScriptEntry) → slice_get entries 0 ≡ o
        → not (passes (λ (entry : ScriptEntry). is_member_origin entry.origin) o) ≡ true
    go None e = refl
    go (Some entry) e = by-origin entry e entry.origin refl

begin-within : (entries : List ScriptEntry) (from end : ℕ) (clients : List ClientScript)
    → are_parts from end (parts_of clients) ≡ true → is_boundary entries from ≡ true
    → list_all (λ (client : ClientScript). is_boundary entries client.part.end) clients ≡ true
    → stand_within entries clients
    (map (λ (c : ClientScript). record { next = c.part.first; refusals = 0 }) clients) ≡ true
begin-within entries from end [] h b all = refl
begin-within entries from end (client ∷ clients) h b all =
    let p = first-part from end client.part (parts_of clients) h in
    let a = and_parts _ _ all in
    and_from _ _
    (and_from _ _
    (and_from _ _ (le-leb client.part.first client.part.first (omega arith))
    (le-leb client.part.first client.part.end (omega (arith, p.first, p.rises))))
    (ap (is_boundary entries) p.first ∙ b))
    (begin-within entries client.part.end end clients p.rest a.0 a.1)

pub first-good : (caps : Caps) (script : Script) (labels : Labels) (history : List Step) (s : State)
    → replay caps history ≡ Some s → s.work.setup.next_name ≡ 0
    → IsGoodWorld caps (is_good script) (first_world script labels s)
first-good caps script labels history s reaches none = record {
  is_labelled = histories-labelled caps labels history s reaches
      (λ a b la lb e. absurd (omega (arith, none, la)));
  is_good = of-good script (first_world script labels s) (record {
    within = begin-within script.entries.items 0 (length script.entries.items) script.clients.items
        (fits script).parts (zero-boundary script.entries.items (fits script).order) (fits script).ends;
    given = λ name l. absurd (omega (arith, l, none));
  });
}
