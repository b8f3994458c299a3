-- What parties ask for, by what was read for it.
use Rattle.dsa_book.specs.declared.event.Event.TheVariants as event
use Rattle.dsa_parties.specs.declared.places.Move.TheVariants as move
use Rattle.std.proofs.Common.{◌≡◌, ℕ, zero, suc, true, false, cond, List, [], ◌∷◌, map, get_or, Option, None, refl, sym}
use Rattle.std.proofs.Common.{ap, ◌∙◌}
use Rattle.std.specs.Prelude.{option_map, option_and_then}
use Rattle.dsa_book.specs.{declared.note.BatchNote.{BatchNote}, State.{State}, Work.{note_at}}
use Rattle.dsa_keys.specs.{Key.{Key, key}, Labels.{Labels, labelled_note}, Parties.{Offer}}
use Rattle.dsa_parties.specs.declared.places.{ClientTurn.{ClientTurn}, NextMember.{NextMember}}
use Rattle.dsa_parties.specs.declared.script.{Act.{Act}, Script.{Script}}
use Rattle.dsa_parties.specs.Standing.{Standing, turn_of, act_of}
use Rattle.dsa_parties.specs.Offers.{offer_of, has_engine, next_member, submission_event, act_event, bare_offer}

abbrev pub turn_offer : ClientTurn → Offer
turn_offer turn = record { event = submission_event turn; label = turn.place.next }

abbrev pub member_offer : ℕ → NextMember → Offer
member_offer e next = record { event = event.Fetch e next.desc; label = next.label }

module _ (script : Script) (stand : Standing) (k : Key) where
  pub client-offered : (c : ℕ) (turn : Option ClientTurn) → turn ≡ turn_of script stand c
      → option_map turn_offer turn ≡ offer_of script stand k (move.Client c)
  client-offered c turn e = ap (option_map turn_offer) e

  pub act-offered : (a : ℕ) (act : Option Act) → act ≡ act_of script stand a
      → option_map (λ each. bare_offer script (act_event each)) act ≡ offer_of script stand k (move.Administrator a)
  act-offered a act e = ap (option_map (λ each. bare_offer script (act_event each))) e

  pub no-engine : (e : ℕ) → has_engine script e ≡ false → None ≡ offer_of script stand k (move.Fetch e)
  no-engine e h = sym (ap (λ b. cond b (option_map (member_offer e)
      (option_and_then (next_member script.entries.items) (get_or k.notes e None))) None) h)

  pub member-offered : (e : ℕ) (note : Option BatchNote) (member : Option NextMember) → has_engine script e ≡ true
      → note ≡ get_or k.notes e None → member ≡ option_and_then (next_member script.entries.items) note
      → option_map (member_offer e) member ≡ offer_of script stand k (move.Fetch e)
  member-offered e batch member h n m =
      ap (option_map (member_offer e)) (m ∙ ap (option_and_then (next_member script.entries.items)) n)
      ∙ sym (ap (λ b. cond b (option_map (member_offer e)
      (option_and_then (next_member script.entries.items) (get_or k.notes e None))) None) h)

-- the note of an engine, by labels
get-notes : (f : BatchNote → BatchNote) (notes : List (Option BatchNote)) (e : ℕ)
    → get_or (map (option_map f) notes) e None ≡ option_map f (get_or notes e None)
get-notes f [] e = refl
get-notes f (n ∷ notes) zero = refl
get-notes f (n ∷ notes) (suc e) = get-notes f notes e

pub note-labelled : (labels : Labels) (s : State) (e : ℕ) (note : Option BatchNote) → note ≡ note_at s.work e
    → option_map (labelled_note labels) note ≡ get_or (key labels s).notes e None
note-labelled labels s e batch h =
    ap (option_map (labelled_note labels)) h ∙ sym (get-notes (labelled_note labels) s.work.notes e)
