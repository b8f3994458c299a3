-- Where the parties of a world stand in a log, and what a move keeps of it.
use Rattle.std.proofs.Common.{◌≡◌, ℕ, ◌<◌, true, false, List, ◌∷◌, slice_get}
use Rattle.std.proofs.Common.{slice_set, Some, refl, sym, ap, ◌∙◌, subst, ⊎_elim, eq-eqb}
use Rattle.std.specs.Prelude.{option_map, option_and_then}
use Rattle.std.proofs.lemmas.{Bool.{cases_eq, ne_eqb}, Option.{same_Some}}
use Rattle.dsa_regs.specs.declared.Caps.{Caps}
use Rattle.dsa_book.specs.declared.{answer.Reply.{Reply}, event.{Event.{Event}}}
use Rattle.dsa_book.specs.{State.{State}, Machine.{next}}
use Rattle.dsa_book.proofs.Gains.{named_by}
use Rattle.dsa_keys.specs.Labels.{labelled_reply}
use Rattle.dsa_keys.specs.Parties.{Offer, World, Made, labels_for, offer_at, world_with, world_after_offer, world_after}
use Rattle.dsa_keys.specs.{Parties.{IsGoodWorld}, Steps.{event_by_label}}
use Rattle.dsa_keys.proofs.Parties.{worlds-answer}
use Rattle.dsa_parties.specs.declared.places.{ClientPlace.{ClientPlace}, Move.{Move}}
use Rattle.dsa_parties.specs.declared.script.{ClientScript.{ClientScript}, Part.{Part}, Script.{Script}}
use Rattle.dsa_parties.specs.{Standing.{Standing, standing_after}, Offers.{parties_of}, Good.{is_good}}
use Rattle.dsa_parties.proofs.{Lawful.{lawful}, Replies.{standing-same}}
use Rattle.dsa_obeys.specs.Obeys.{Doer, submits, does, LogLine, number_of, is_by_client, is_by_administrator, client_lines}
use Rattle.dsa_obeys.specs.Obeys.{administrator_lines, to_submit, to_do, submit_in_order, do_in_order}
use Rattle.dsa_obeys.specs.Walks.{is_in_vain, doer_of, line_of_offer, line_of_move}
use Rattle.dsa_obeys.proofs.{Filters.{filter-in, filter-out, set-here, set-other}, Submissions.{part_from}}
use Rattle.dsa_obeys.proofs.Named.{AreNamed, named-after}

-- ---- where they stand

-- the client stands where the rest of the log goes on
pub record ClientStands (script : Script) (places : List ClientPlace) (rest : List LogLine) (c : ℕ)
    (client : ClientScript) : Type 0 where
  pub place : ClientPlace
  pub at : slice_get places c ≡ Some place
  pub order : submit_in_order script.entries.items
      (to_submit script.entries.items (part_from place.next client.part)) place.refusals (client_lines c rest) ≡ true

-- and so does the administrator
pub record AdministratorStands (script : Script) (places : List ℕ) (rest : List LogLine) (a : ℕ) (part : Part)
    : Type 0 where
  pub next : ℕ
  pub at : slice_get places a ≡ Some next
  pub order : do_in_order script.acts.items (to_do script.acts.items (part_from next part))
      (administrator_lines a rest) ≡ true

abbrev pub ClientsStand : Script → List ClientPlace → List LogLine → Type 0
ClientsStand script places rest = (c : ℕ) (client : ClientScript) → slice_get script.clients.items c ≡ Some client
    → ClientStands script places rest c client

abbrev pub AdministratorsStand : Script → List ℕ → List LogLine → Type 0
AdministratorsStand script places rest = (a : ℕ) (part : Part) → slice_get script.administrators.items a ≡ Some part
    → AdministratorStands script places rest a part

-- the world is good, its names are those of the log, and all stand where the rest goes on
pub record StandsAt (caps : Caps) (script : Script) (before : List LogLine) (w : World Standing) (rest : List LogLine)
    : Type 0 where
  pub world : IsGoodWorld caps (is_good script) w
  pub named : AreNamed before w.labels w.state
  pub clients : ClientsStand script w.places.clients rest
  pub administrators : AdministratorsStand script w.places.administrators rest

-- ---- behind a line

-- a line that is of no client, or of this one
pub clients-pass : (script : Script) (places : List ClientPlace) (line : LogLine) (rest : List LogLine)
    → ((c : ℕ) → is_by_client c line.doer ≡ false) → ClientsStand script places (line ∷ rest)
    → ClientsStand script places rest
clients-pass script places line rest apart stand c client e =
    let s = stand c client e in
    record {
      place = s.place;
      at = s.at;
      order = subst (λ lines. submit_in_order script.entries.items
          (to_submit script.entries.items (part_from s.place.next client.part)) s.place.refusals lines ≡ true)
          (filter-out (λ (line : LogLine). is_by_client c line.doer) line rest (apart c)) s.order;
    }

pub administrators-pass : (script : Script) (places : List ℕ) (line : LogLine) (rest : List LogLine)
    → ((a : ℕ) → is_by_administrator a line.doer ≡ false) → AdministratorsStand script places (line ∷ rest)
    → AdministratorsStand script places rest
administrators-pass script places line rest apart stand a part e =
    let s = stand a part e in
    record {
      next = s.next;
      at = s.at;
      order = subst (λ lines. do_in_order script.acts.items
          (to_do script.acts.items (part_from s.next part)) lines ≡ true)
          (filter-out (λ (line : LogLine). is_by_administrator a line.doer) line rest (apart a)) s.order;
    }

-- the order from the place, of the line and of the client's lines behind it
pub client-line : (c : ℕ) (n : ℕ) (line : LogLine) (rest : List LogLine) → line.doer ≡ submits c n
    → client_lines c (line ∷ rest) ≡ line ∷ client_lines c rest
client-line c n line rest d = filter-in (λ (line : LogLine). is_by_client c line.doer) line rest
    (ap (is_by_client c) d ∙ eq-eqb c c refl)

pub administrator-line : (a : ℕ) (k : ℕ) (line : LogLine) (rest : List LogLine) → line.doer ≡ does a k
    → administrator_lines a (line ∷ rest) ≡ line ∷ administrator_lines a rest
administrator-line a k line rest d = filter-in (λ (line : LogLine). is_by_administrator a line.doer) line rest
    (ap (is_by_administrator a) d ∙ eq-eqb a a refl)

pub clients-move : (script : Script) (places : List ClientPlace) (line : LogLine) (rest : List LogLine) (c n : ℕ)
    (client : ClientScript) (place place' : ClientPlace) → line.doer ≡ submits c n
    → slice_get script.clients.items c ≡ Some client → slice_get places c ≡ Some place
    → submit_in_order script.entries.items (to_submit script.entries.items (part_from place'.next client.part))
    place'.refusals (client_lines c rest) ≡ true
    → ClientsStand script places (line ∷ rest) → ClientsStand script (slice_set places c place') rest
clients-move script places line rest c n client place place' d is at order stand b other e = ⊎_elim
    (λ (same : b ≡ c).
    subst (λ k. ClientStands script (slice_set places c place') rest k other) (sym same)
    (subst (ClientStands script (slice_set places c place') rest c)
    (same_Some client other (sym is ∙ ap (slice_get script.clients.items) (sym same) ∙ e))
    (record { place = place'; at = set-here places c place place' at; order = order })))
    (λ ne.
    let s = stand b other e in
    record {
      place = s.place;
      at = set-other places c b place' ne ∙ s.at;
      order = subst (λ lines. submit_in_order script.entries.items
          (to_submit script.entries.items (part_from s.place.next other.part)) s.place.refusals lines ≡ true)
          (filter-out (λ (line : LogLine). is_by_client b line.doer) line rest
          (ap (is_by_client b) d ∙ ne_eqb c b (λ q. ne (sym q)))) s.order;
    })
    (cases_eq b c)

pub administrators-move : (script : Script) (places : List ℕ) (line : LogLine) (rest : List LogLine) (a k : ℕ)
    (part : Part) (next next' : ℕ) → line.doer ≡ does a k
    → slice_get script.administrators.items a ≡ Some part → slice_get places a ≡ Some next
    → do_in_order script.acts.items (to_do script.acts.items (part_from next' part)) (administrator_lines a rest)
    ≡ true
    → AdministratorsStand script places (line ∷ rest) → AdministratorsStand script (slice_set places a next') rest
administrators-move script places line rest a k part next next' d is at order stand b other e = ⊎_elim
    (λ (same : b ≡ a).
    subst (λ k. AdministratorStands script (slice_set places a next') rest k other) (sym same)
    (subst (AdministratorStands script (slice_set places a next') rest a)
    (same_Some part other (sym is ∙ ap (slice_get script.administrators.items) (sym same) ∙ e))
    (record { next = next'; at = set-here places a next next' at; order = order })))
    (λ ne.
    let s = stand b other e in
    record {
      next = s.next;
      at = set-other places a b next' ne ∙ s.at;
      order = subst (λ lines. do_in_order script.acts.items
          (to_do script.acts.items (part_from s.next other)) lines ≡ true)
          (filter-out (λ (line : LogLine). is_by_administrator b line.doer) line rest
          (ap (is_by_administrator b) d ∙ ne_eqb a b (λ q. ne (sym q)))) s.order;
    })
    (cases_eq b a)

-- ---- a move

-- a move leads to the state, leaves the line, and all stand behind it
pub record IsMade (caps : Caps) (script : Script) (before : List LogLine) (w : World Standing) (line : LogLine)
    (rest : List LogLine) (s : State) : Type 0 where
  pub made : Made Move
  pub after : World Standing
  pub leads : world_after (parties_of script) w made.move made.reply ≡ Some after
  pub left : line_of_move script w made ≡ Some line
  pub moves : is_in_vain line.step.reply ≡ false
  pub state : after.state ≡ s
  pub stands : StandsAt caps script (line ∷ before) after rest

module _ (caps : Caps) (script : Script) (before : List LogLine) (w : World Standing) (line : LogLine)
    (rest : List LogLine) (s : State) (stand : StandsAt caps script before w (line ∷ rest))
    (step : next w.state line.step.event line.step.reply ≡ Some s) where
  abbrev reply : Reply
  reply = line.step.reply

  module _ (move : Move) (o : Offer) (offers : offer_at (parties_of script) w move ≡ Some o)
      (event : event_by_label (labels_for w o) w.state o.event ≡ Some line.step.event)
      (doer : doer_of script w.places move o.label ≡ line.doer)
      (about : 0 < named_by line.step.reply → number_of line.doer ≡ Some o.label) where
    abbrev after : World Standing
    after = world_with (parties_of script) w move reply o s

    leads : world_after (parties_of script) w move reply ≡ Some after
    leads = ap (option_and_then (world_after_offer (parties_of script) w move reply)) offers
        ∙ ap (option_map (world_with (parties_of script) w move reply o))
        (ap (option_and_then (λ found. next w.state found reply)) event ∙ step)

    left : line_of_move script w (record { move = move; reply = reply }) ≡ Some line
    left = ap (option_and_then (line_of_offer script w (record { move = move; reply = reply }))) offers
        ∙ ap (option_map (λ (e : Event). record {
          step = record { event = e; reply = reply };
          doer = doer_of script w.places move o.label;
        })) event
        ∙ ap (λ (d : Doer). Some (record { step = line.step; doer = d })) doer

    world : IsGoodWorld caps (is_good script) after
    world = (worlds-answer caps (parties_of script) (is_good script) (lawful caps script) w after w move reply
        stand.world stand.world (record { places = refl; keys = refl }) leads).left

    places : standing_after script w.places move (labelled_reply (labels_for w o) reply)
        ≡ standing_after script w.places move reply
    places = standing-same script w.places move (labels_for w o) reply

    pub made-so : is_in_vain line.step.reply ≡ false → (stand' : Standing) → standing_after script w.places move reply ≡ stand'
        → ClientsStand script stand'.clients rest → AdministratorsStand script stand'.administrators rest
        → IsMade caps script before w line rest s
    made-so moves stand' is clients administrators = record {
      made = record { move = move; reply = reply };
      after = after;
      leads = leads;
      left = left;
      moves = moves;
      state = refl;
      stands = record {
        world = world;
        named = named-after before line w.labels w.state s o.label step stand.named about;
        clients = subst (λ (z : Standing). ClientsStand script z.clients rest) (sym (places ∙ is)) clients;
        administrators = subst (λ (z : Standing). AdministratorsStand script z.administrators rest)
            (sym (places ∙ is)) administrators;
      };
    }
