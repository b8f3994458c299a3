use Rattle.dsa_explain_rows.proofs.effects.of_members_that_lack_one_thing.Goals as goal
use Rattle.std.proofs.Common.{◌≡◌, ℕ, zero, suc, [], ◌∷◌, ap, arith, false, inl, inr, refl, subst, sym, true}
use Rattle.std.specs.Prelude.{Bool, List, Some, find, is_some, not, ◌&&◌}
use Rattle.dsa_base.proofs.Lists.{In-find}
use Rattle.dsa_base.specs.Lists.{In}
use Rattle.dsa_desc.specs.Descriptor.{is_fenced}
use Rattle.dsa_regs.specs.declared.{GroupConfig.{GroupConfig}, Phase.TheVariants.{On}}
use Rattle.dsa_regs.specs.Config.{zero_group}
use Rattle.dsa_regs.specs.Worked.{first_group}
use Rattle.dsa_store.specs.Content.{HeldEntry}
use Rattle.dsa_book.specs.declared.{answer.Ticket.{Ticket}, note.BatchNote.{BatchNote}}
use Rattle.dsa_book.specs.State.{Work, is_ticket, need_of}
use Rattle.dsa_book.specs.Work.{first_waiting, has_failed_member, has_room, is_front, must_wait, running_on}
use Rattle.dsa_explain_rows.specs.Effects.{batch_of_four, note_failed, note_open, notes_of, one_group_in, seven_moves, seven_waits, seven_with_fence, six_runs, state_over, with_members}

-- engine 1 has these members and this note
abbrev work_in : List GroupConfig → List HeldEntry → BatchNote → Work
work_in groups members note =
    (state_over (record (one_group_in On (On ∷ On ∷ [])) { groups = groups }) (with_members members) (notes_of note)).work

abbrev one_group : List GroupConfig
one_group = record first_group { queues = 3; engines = 3 } ∷ zero_group ∷ []

-- what holds of the first that waits on any engine holds of the first on engine 1
on_one : (groups : List GroupConfig) (members : List HeldEntry) (note : BatchNote) (P : ℕ → HeldEntry → Type 0)
    (engine : ℕ) (pair first : HeldEntry)
    → first_waiting (work_in groups members note) engine ≡ Some pair
    → first_waiting (work_in groups members note) 1 ≡ Some first → P engine pair → P 1 first
on_one groups members note P zero pair first is one holds = absurd (grind (arith, ap (λ o. is_some o) is))
on_one groups members note P (suc zero) pair first is one holds =
    let same : pair ≡ first = cc in subst (P 1) same holds
on_one groups members note P (suc (suc engine)) pair first is one holds =
    absurd (grind (arith, ap (λ o. is_some o) is))

-- so the first member on engine 1 is not one with a fence behind another
behind : (members : List HeldEntry) (note : BatchNote) (first : HeldEntry)
    → first_waiting (work_in one_group members note) 1 ≡ Some first → (engine : ℕ) (pair : HeldEntry)
    → first_waiting (work_in one_group members note) engine ≡ Some pair
    → (is_fenced pair.1.desc && not (is_front (work_in one_group members note) engine pair)) ≡ false
    → (is_fenced first.1.desc && not (is_front (work_in one_group members note) 1 first)) ≡ false
behind members note first one engine pair is = on_one one_group members note
    (λ engine pair. (is_fenced pair.1.desc && not (is_front (work_in one_group members note) engine pair)) ≡ false)
    engine pair first is one

-- and it is or is not one with a fence behind a failure
failed : (members : List HeldEntry) (note : BatchNote) (first : HeldEntry) (so : Bool)
    → first_waiting (work_in one_group members note) 1 ≡ Some first → (engine : ℕ) (pair : HeldEntry)
    → first_waiting (work_in one_group members note) engine ≡ Some pair
    → (is_fenced pair.1.desc && has_failed_member (work_in one_group members note) engine) ≡ so
    → (is_fenced first.1.desc && has_failed_member (work_in one_group members note) 1) ≡ so
failed members note first so one engine pair is = on_one one_group members note
    (λ engine pair. (is_fenced pair.1.desc && has_failed_member (work_in one_group members note) engine) ≡ so)
    engine pair first is one

pub returns-clause-fence_waits : goal.returns-clause-fence_waits
returns-clause-fence_waits c s' is =
    grind (arith, behind (six_runs ∷ seven_with_fence ∷ []) note_open seven_with_fence refl is.engine is.pair is.is_first is.first_of_all)

pub returns-clause-fence_is_not_abandoned : goal.returns-clause-fence_is_not_abandoned
returns-clause-fence_is_not_abandoned c s' is =
    grind (arith, behind (six_runs ∷ seven_with_fence ∷ []) note_failed seven_with_fence refl is.engine is.pair is.is_first is.first_of_all)

-- a group that may have one read buffer
abbrev poor_group : List GroupConfig
poor_group = record first_group { queues = 3; engines = 3; allowed = 1 } ∷ []

pub returns-clause-no_buffers : goal.returns-clause-no_buffers
returns-clause-no_buffers c s' is =
    let w = work_in poor_group (seven_moves ∷ []) note_open in
    let no = on_one poor_group (seven_moves ∷ []) note_open
    (λ engine pair. has_room w engine (need_of w.setup pair.1) ≡ true)
    is.engine is.pair seven_moves is.is_first refl is.room in
    grind (arith, no)

pub returns-clause-one_failed : goal.returns-clause-one_failed
returns-clause-one_failed c s' is =
    grind (arith, failed (seven_with_fence ∷ []) note_failed seven_with_fence false refl is.engine is.pair is.is_first is.unfailed)

pub returns-clause-none_failed : goal.returns-clause-none_failed
returns-clause-none_failed c s' is =
    grind (arith, failed (seven_with_fence ∷ []) note_open seven_with_fence true refl is.engine is.pair is.is_first is.failed)

pub returns-clause-no_fence : goal.returns-clause-no_fence
returns-clause-no_fence c s' is =
    grind (arith, failed (seven_waits ∷ []) note_failed seven_waits true refl is.engine is.pair is.is_first is.failed)

none : (engine : ℕ) → is_some (first_waiting (work_in one_group (six_runs ∷ []) note_failed) engine) ≡ false
none zero = refl
none (suc zero) = refl
none (suc (suc engine)) = grind (arith)

pub returns-clause-none_waits : goal.returns-clause-none_waits
returns-clause-none_waits c s' is = grind (arith, none is.engine, ap (λ o. is_some o) is.is_first)

only : (x y : HeldEntry) → In y (x ∷ []) → x ≡ y
only x y (inl is) = is
only x y (inr none) = absurd none

-- only batch 3 runs, and its member is left
is_left : (engine : ℕ) (t : Ticket) (pair : HeldEntry)
    → find (is_ticket t) (running_on (work_in one_group (seven_waits ∷ []) note_open) engine) ≡ Some pair
    → must_wait (work_in one_group (seven_waits ∷ []) note_open) engine pair.1 ≡ false → ⊥
is_left zero t pair is ready = grind (arith, ap (λ o. is_some o) is)
is_left (suc zero) t pair is ready =
    let same = only batch_of_four pair (In-find (is_ticket t) pair (batch_of_four ∷ []) is).0 in
    grind (arith, subst (λ (it : HeldEntry). must_wait (work_in one_group (seven_waits ∷ []) note_open) 1 it.1 ≡ false) (sym same) ready)
is_left (suc (suc engine)) t pair is ready = grind (arith, ap (λ o. is_some o) is)

pub returns-clause-member_left : goal.returns-clause-member_left
returns-clause-member_left c s' is = is_left is.engine is.ticket is.pair is.is_found is.ready
