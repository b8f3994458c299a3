-- A move that is made on a device, as a step of a world.
use Rattle.std.proofs.Common.{◌≡◌, ◌≢◌, ℕ, zero, suc, ◌<◌, ◌==◌, Bool, false, cond, List, [], ◌∷◌, ◌++◌, Option, Some}
use Rattle.std.proofs.Common.{None}
use Rattle.std.proofs.Common.{refl, sym, ap, ◌∙◌, subst, length, get_or, ⊎_elim, arith, get_or-set_other}
use Rattle.std.proofs.Common.{get_or-set_same}
use Rattle.std.specs.Prelude.{map, option_map, option_and_then, unwrap_or, slice_set}
use Rattle.std.proofs.lemmas.Bool.{cases_eq, eq-eqb, ne_eqb}
use Rattle.dsa_book.specs.declared.{event.Event.{Event}, answer.Reply.{Reply}, fate.FateRow.{FateRow}}
use Rattle.dsa_book.specs.{State.{State}, Machine.{next}}
use Rattle.dsa_keys.specs.Labels.{Labels, with_label, labelled_reply, labelled_row}
use Rattle.dsa_keys.specs.Steps.{event_by_label}
use Rattle.dsa_keys.specs.Parties.{Offer, World, offer_at, labels_for, world_with, world_after, world_after_offer}
use Rattle.dsa_device.specs.Running.{Running, after_answer, running_after}
use Rattle.dsa_parties.specs.declared.{places.Move.{Move}, script.Script.{Script}}
use Rattle.dsa_parties.specs.{Standing.{Standing}, Watches.{moved_by}, Offers.{parties_of}}
use Rattle.dsa_book.specs.declared.answer.{DispatchAnswer.{DispatchAnswer, TheVariants.{Taken, Idle, Full}}}
use Rattle.dsa_book.specs.declared.answer.Reply.TheVariants.{Dispatch}
use Rattle.dsa_book.specs.Choice.{choice_of, from_queue}
use Rattle.dsa_explore.specs.{Findings.{rows_of_step}, Rows.{labels_of}, Search.{queue_taken_from}}

-- ---- labels

pushed : (xs : List ℕ) (y n : ℕ) → (n ≡ length xs → get_or (xs ++ y ∷ []) n 0 ≡ y)
    × ((n ≡ length xs → ⊥) → get_or (xs ++ y ∷ []) n 0 ≡ get_or xs n 0)
pushed [] y zero = (λ e. refl, λ ne. absurd (ne refl))
pushed [] y (suc n) = (λ e. absurd (omega (arith, e)), λ ne. refl)
pushed (x ∷ xs) y zero = (λ e. absurd (omega (arith, e)), λ ne. refl)
pushed (x ∷ xs) y (suc n) =
    let r = pushed xs y n in
    (λ e. r.0 (omega (arith, e)), λ ne. r.1 (λ e. ne (omega (arith, e))))

-- a function that is as with_label says at each name
as-labelled : (old new : Labels) (name label : ℕ) → (new name ≡ label)
    → ((n : ℕ) → (n ≡ name → ⊥) → new n ≡ old n) → new ≡ with_label old name label
as-labelled old new name label here others = λ i n. ⊎_elim
    (λ (e : n ≡ name). ap new e ∙ here ∙ sym (ap (λ (b : Bool). cond b label (old n)) (eq-eqb n name e)))
    (λ ne. others n ne ∙ sym (ap (λ (b : Bool). cond b label (old n)) (ne_eqb n name ne)))
    (cases_eq n name) i

pub label-pushed : (xs : List ℕ) (name label : ℕ) → length xs ≡ name
    → labels_of (xs ++ label ∷ []) ≡ with_label (labels_of xs) name label
label-pushed xs name label e = as-labelled (labels_of xs) (labels_of (xs ++ label ∷ [])) name label
    ((pushed xs label name).0 (sym e)) (λ n ne. (pushed xs label n).1 (λ same. ne (same ∙ e)))

pub label-set : (xs : List ℕ) (name label : ℕ) → name < length xs
    → labels_of (slice_set xs name label) ≡ with_label (labels_of xs) name label
label-set xs name label below = as-labelled (labels_of xs) (labels_of (slice_set xs name label)) name label
    (rw get_or-set_same refl) (λ n ne. rw get_or-set_other refl)

-- ---- steps

mapped : (d d' : Running) (event : Event) (reply : Reply) (o : Option State)
    → option_map (running_after d event reply) o ≡ Some d' → o ≡ Some d'.state
mapped d d' event reply None h = absurd cc
mapped d d' event reply (Some s) h =
    let e : running_after d event reply s ≡ d' = ap (λ z. unwrap_or z d') h in
    ap (λ (r : Running). Some r.state) e

-- an answer of a device whose history has room is one of the machine's
pub answer-next : (d d' : Running) (event : Event) (reply : Reply) → after_answer d event reply ≡ Some d'
    → (length d.history == d.capacity) ≡ false → next d.state event reply ≡ Some d'.state
answer-next d d' event reply h room = mapped d d' event reply (next d.state event reply) (rw room at h)

-- ---- moves

-- where all stand after a step with this reply and these rows, by labels
abbrev pub moved_with : Script → Standing → Move → Labels → Reply → List FateRow → Standing
moved_with script stand move labels reply rows =
    moved_by script stand move (labelled_reply labels reply) (map (labelled_row labels) rows)

-- the offer was made, and the parties went on by what was told of the reply and of what ended
pub made : (script : Script) (w w' : World Standing) (move : Move) (reply : Reply) (o : Offer) (event : Event)
    → offer_at (parties_of script) w move ≡ Some o → w'.labels ≡ labels_for w o
    → event_by_label w'.labels w.state o.event ≡ Some event → next w.state event reply ≡ Some w'.state
    → w'.places ≡ moved_with script w.places move w'.labels reply (rows_of_step w.state w'.state)
    → world_after (parties_of script) w move reply ≡ Some w'
made script w w' move reply o event offered labels found step places =
    let parties = parties_of script in
    let found' : event_by_label (labels_for w o) w.state o.event ≡ Some event =
    subst (λ (m : Labels). event_by_label m w.state o.event ≡ Some event) labels found in
    let rows = rows_of_step w.state w'.state in
    let places' : moved_with script w.places move (labels_for w o) reply rows ≡ w'.places =
    sym (subst (λ (m : Labels). w'.places ≡ moved_with script w.places move m reply rows) labels places) in
    ap (option_and_then (world_after_offer parties w move reply)) offered
    ∙ ap (λ (z : Option Event). option_map (world_with parties w move reply o)
    (option_and_then (λ e. next w.state e reply) z)) found'
    ∙ ap (option_map (world_with parties w move reply o)) step
    ∙ (λ i. Some (record { places = places' i; labels = sym labels i; state = w'.state }))

-- what is taken from a queue tells of that queue
pub taken-of : (answer : DispatchAnswer) (queue q p : ℕ)
    → (answer ≢ Full → choice_of (Dispatch answer) ≡ from_queue queue) → Some queue ≡ Some q
    → queue_taken_from (Dispatch answer) ≡ Some p → q ≡ p
taken-of (Taken ticket other) queue q p told same is =
    let e : from_queue other ≡ from_queue queue = told (λ bad. absurd cc) in
    cc
taken-of Idle queue q p told same is = absurd cc
taken-of Full queue q p told same is = absurd cc
