-- Worlds in which no label of a script comes twice.
use Rattle.std.specs.Prelude.{ℕ, Bool, true, false, not, ◌&&◌, ◌||◌, nat_lt, nat_le, List, [], ◌∷◌, Option, Some, None}
use Rattle.std.specs.List.{list_all, list_any}
use Rattle.dsa_base.specs.Numbers.{numbers_below}
use Rattle.dsa_store.specs.Content.{HeldEntry, all_held}
use Rattle.dsa_book.specs.{declared.note.BatchNote.{BatchNote}, State.{Work, State, is_member}}
use Rattle.dsa_keys.specs.{Labels.{Labels}, Parties.{World}}
use Rattle.dsa_parties.specs.declared.places.ClientPlace.{ClientPlace}
use Rattle.dsa_parties.specs.declared.script.{ClientScript.{ClientScript}, Script.{Script}, ScriptEntry.{ScriptEntry}}
use Rattle.dsa_parties.specs.Scripts.{is_boundary, member_label, is_member_label}
use Rattle.dsa_parties.specs.Standing.{Standing, standing_first}

-- each client stands in its part or at its end, and at no member
abbrev pub stand_within : List ScriptEntry → List ClientScript → List ClientPlace → Bool
stand_within entries [] [] = true
stand_within entries (client ∷ clients) (place ∷ places) =
    nat_le client.part.first place.next
    && nat_le place.next client.part.end
    && is_boundary entries place.next
    && stand_within entries clients places
stand_within entries clients places = false

-- some client stands behind the label, in whose part it is
abbrev pub is_behind : List ClientScript → List ClientPlace → ℕ → Bool
is_behind (client ∷ clients) (place ∷ places) label =
    (nat_le client.part.first label && nat_lt label place.next) || is_behind clients places label
is_behind clients places label = false

-- the label is of a member of this entry, which waits in a queue
abbrev pub is_of_waiting : List ScriptEntry → Labels → ℕ → HeldEntry → Bool
is_of_waiting entries labels label pair =
    not pair.1.running && not (is_member pair.1) && is_member_label entries (labels pair.1.name) label

-- the label is of a member that is still to be fetched for the batch of this note
abbrev pub is_unfetched : List ScriptEntry → Labels → ℕ → Option BatchNote → Bool
is_unfetched entries labels label None = false
is_unfetched entries labels label (Some note) =
    nat_le (member_label (labels note.batch) note.fetched) label && is_member_label entries (labels note.batch) label

-- a name may have the label: it was asked for, and is of no member that is still to be fetched
abbrev pub may_be_given : List ScriptEntry → List ClientScript → List ClientPlace → Labels → Work → ℕ → Bool
may_be_given entries clients places labels w label =
    is_behind clients places label
    && not (list_any (is_of_waiting entries labels label) (all_held w.content))
    && not (list_any (is_unfetched entries labels label) w.notes)

-- each client stands where it may, and each name that was given may have its label
abbrev pub is_good : Script → World Standing → Bool
is_good script w =
    stand_within script.entries.items script.clients.items w.places.clients
    && list_all
    (λ name. may_be_given script.entries.items script.clients.items w.places.clients w.labels w.state.work
    (w.labels name))
    (numbers_below w.state.work.setup.next_name)

-- the world in which the parties begin
abbrev pub first_world : Script → Labels → State → World Standing
first_world script labels s = record { places = standing_first script; labels = labels; state = s }
