use Rattle.dsa_explain_rows.proofs.effects.of_entries_that_lack_one_thing.Goals as goal
use Rattle.std.proofs.Common.{◌≡◌, ℕ, zero, suc, [], ◌∷◌, ap, arith, false, refl, subst, sym, true}
use Rattle.std.specs.Prelude.{None, Option, Some, is_some, length, nat_le, option_map, sum_by, unwrap_or}
use Rattle.dsa_desc.specs.declared.Descriptor.{Descriptor}
use Rattle.dsa_regs.specs.Config.{queue_at}
use Rattle.dsa_regs.specs.declared.Phase.TheVariants.{Off, On}
use Rattle.dsa_regs.specs.Worked.{dedicated_queue, shared_queue}
use Rattle.dsa_store.specs.declared.entry.Cell.{Cell}
use Rattle.dsa_store.specs.Content.{HeldEntry, chain, is_free}
use Rattle.dsa_book.specs.declared.event.{Kind.{Kind, TheVariants.{Enqcmd, Movdir64b}}, Portal.{Portal, TheVariants.{Limited, Unlimited}}}
use Rattle.dsa_book.specs.declared.note.BatchNote.{BatchNote}
use Rattle.dsa_book.specs.Machine.{intake_of, with_intake, with_work}
use Rattle.dsa_book.specs.State.{Setup, State, is_on, occupancy, phase_at}
use Rattle.dsa_book.specs.Submit.{after_accept, is_movdir64b, limit_of}
use Rattle.dsa_book.specs.Work.{after_take, batch_on, front_of, is_all_fetched, note_at, qualifies}
use Rattle.dsa_worked.specs.Setup.{no_op}
use Rattle.dsa_explain_rows.specs.Effects.{in_second_queue, note_open, notes_of, on_the_second, one_group_in, seven_waits, state_on, two_cells_in_use, with_members}
use Rattle.std.specs.Bool.{beq}

-- the only queue that is On has one place, which entry 4 has
abbrev one_place : Setup
one_place = record (one_group_in On (Off ∷ On ∷ [])) { configs = shared_queue ∷ record dedicated_queue { size = 1 } ∷ [] }

full : (queue : ℕ) (portal : Portal) → is_on (phase_at one_place queue) ≡ true
    → nat_le (limit_of (queue_at one_place.configs queue) portal) (occupancy in_second_queue queue) ≡ false → ⊥
full zero portal on below = grind (arith, on)
full (suc zero) Limited on below = grind (arith, below)
full (suc zero) Unlimited on below = grind (arith, below)
full (suc (suc queue)) portal on below = grind (arith, on)

pub returns-clause-at_the_limit : goal.returns-clause-at_the_limit
returns-clause-at_the_limit c s' is = full is.queue is.portal is.on is.below

-- ENQCMD is not for queue 1, and what MOVDIR64B writes there has PASID 7
of_pasid_five : (queue : ℕ) (kind : Kind) (desc : Descriptor) (cell : Cell)
    → is_on (phase_at on_the_second.work.setup queue) ≡ true
    → beq (is_movdir64b kind) (queue_at on_the_second.work.setup.configs queue).dedicated ≡ true
    → with_intake on_the_second (after_accept (intake_of on_the_second) queue kind desc cell).1
    ≡ with_intake on_the_second (after_accept (intake_of on_the_second) 1 (Enqcmd 5) no_op (record { 0 = 3 })).1
    → ⊥
of_pasid_five zero kind desc cell on of_kind after = grind (arith, on)
of_pasid_five (suc zero) (Enqcmd pasid) desc cell on of_kind after = grind (arith, of_kind)
of_pasid_five (suc zero) Movdir64b desc cell on of_kind after =
    omega (arith, ap (λ (s : State). sum_by (λ pair. pair.1.desc.pasid) (chain s.work.content 1)) after)
of_pasid_five (suc (suc queue)) kind desc cell on of_kind after = grind (arith, on)

pub returns-clause-other_kind : goal.returns-clause-other_kind
returns-clause-other_kind c is = of_pasid_five is.queue is.kind is.desc is.cell is.on is.of_kind is.after

pub returns-clause-no_cells : goal.returns-clause-no_cells
returns-clause-no_cells c s' is = grind (arith, is.free)

-- entry 4 is at the front of queue 1, and other queues are empty
of_four : (engine queue : ℕ) (front : HeldEntry)
    → front_of (state_on in_second_queue []).work queue ≡ Some front
    → qualifies (state_on in_second_queue []).work engine queue ≡ true
    → with_work (state_on in_second_queue []) (after_take (state_on in_second_queue []).work engine queue front)
    ≡ with_work (state_on in_second_queue []) (after_take (state_on in_second_queue []).work 0 1 seven_waits)
    → ⊥
of_four engine zero front is may after = grind (arith, ap (λ o. is_some o) is)
of_four zero (suc zero) front is may after =
    let name : 4 ≡ front.1.name = ap (λ (o : Option HeldEntry). unwrap_or (option_map (λ (pair : HeldEntry). pair.1.name) o) 0) is in
    omega (arith, name, ap (λ (s : State). sum_by (λ pair. pair.1.name) (chain s.work.content 2)) after)
of_four (suc zero) (suc zero) front is may after =
    omega (arith, ap (λ (s : State). length (chain s.work.content 2)) after)
of_four (suc (suc engine)) (suc zero) front is may after = grind (arith, may)
of_four engine (suc (suc queue)) front is may after = grind (arith, may)

pub returns-clause-another_front : goal.returns-clause-another_front
returns-clause-another_front c is = of_four is.engine is.queue is.front is.is_front is.qualifies is.after

without_notes : (engine : ℕ) → is_some (note_at (state_on (with_members []) (None ∷ None ∷ [])).work engine) ≡ false
without_notes zero = refl
without_notes (suc zero) = refl
without_notes (suc (suc engine)) = grind (arith)

pub returns-clause-no_note : goal.returns-clause-no_note
returns-clause-no_note c s' is = grind (arith, without_notes is.engine, ap (λ o. is_some o) is.is_note)

-- only engine 1 has a note, and no batch
without_batch : (engine : ℕ) (note : BatchNote) (batch : HeldEntry)
    → note_at (state_on [] (notes_of note_open)).work engine ≡ Some note
    → batch_on (state_on [] (notes_of note_open)).work engine note ≡ Some batch → ⊥
without_batch zero note batch is found = grind (arith, ap (λ o. is_some o) is)
without_batch (suc zero) note batch is found = grind (arith, ap (λ o. is_some o) found)
without_batch (suc (suc engine)) note batch is found = grind (arith, ap (λ o. is_some o) is)

pub returns-clause-no_batch : goal.returns-clause-no_batch
returns-clause-no_batch c s' is = without_batch is.engine is.note is.batch is.is_note is.is_batch

-- only engine 1 has a note, by which all is fetched
with_none_left : (engine : ℕ) (note : BatchNote)
    → note_at (state_on (with_members []) (notes_of (record note_open { fetched = 4 }))).work engine ≡ Some note
    → is_all_fetched note ≡ false → ⊥
with_none_left zero note is more = grind (arith, ap (λ o. is_some o) is)
with_none_left (suc zero) note is more =
    let same : record note_open { fetched = 4 } ≡ note = cc in
    grind (arith, subst (λ n. is_all_fetched n ≡ false) (sym same) more)
with_none_left (suc (suc engine)) note is more = grind (arith, ap (λ o. is_some o) is)

pub returns-clause-all_fetched : goal.returns-clause-all_fetched
returns-clause-all_fetched c s' is = with_none_left is.engine is.note is.is_note is.more

-- of the store's two cells none is free
none_free : (n : ℕ) → is_free 2 two_cells_in_use.work.content (record { 0 = n }) ≡ false
none_free zero = refl
none_free (suc zero) = refl
none_free (suc (suc n)) = grind (arith)

pub returns-clause-no_free_cell : goal.returns-clause-no_free_cell
returns-clause-no_free_cell c s' is = grind (arith, none_free is.cell.0, is.free)
