use Rattle.dsa_explain_rows.proofs.effects.of_commands_that_lack_one_thing.Goals as goal
use Rattle.std.proofs.Common.{◌≡◌, ℕ, zero, suc, ◌<◌, [], ◌∷◌, ap, arith, false, lit≤, refl, subst, sym, true, ⊎_elim}
use Rattle.std.specs.Prelude.{List, map, not, option_map, unwrap_or, ◌&&◌, ◌==◌}
use Rattle.dsa_regs.specs.declared.Command.{Command}
use Rattle.dsa_regs.specs.declared.Deed.{Deed, TheVariants.{Abort, Disable, Drain, Enable, Reset}}
use Rattle.dsa_regs.specs.declared.Phase.TheVariants.{Off, On}
use Rattle.dsa_regs.specs.declared.QueueConfig.{QueueConfig}
use Rattle.dsa_regs.specs.declared.Scope.{Scope, TheVariants.{Device, Pasid, Queue, Queues}}
use Rattle.dsa_regs.specs.Command.{deed_of, number_of_command, scope_of}
use Rattle.dsa_regs.specs.Config.{queue_at}
use Rattle.dsa_regs.specs.Worked.{dedicated_queue, shared_queue}
use Rattle.dsa_store.specs.Content.{HeldEntry}
use Rattle.dsa_book.specs.Commands.{is_bad_queues, may_come, suits}
use Rattle.dsa_book.specs.Machine.{state_with_setup}
use Rattle.dsa_book.specs.State.{State, has_queue, is_off, phase_at}
use Rattle.dsa_book.specs.Work.{fate_row}
use Rattle.dsa_book.specs.declared.answer.{Cause.TheVariants.{NotEnabled}, NotedError.{NotedError}}
use Rattle.dsa_book.specs.declared.event.Kind.TheVariants.{Movdir64b}
use Rattle.dsa_book.specs.declared.fate.{Fate.{Fate, TheVariants.{Aborted}}, FateRow.{FateRow}}
use Rattle.std.specs.Prelude.{slice_set}
use Rattle.dsa_laws.specs.Refusals.{IsRefused}
use Rattle.dsa_explain_rows.specs.Effects.{one_group_in, state_on, state_over}

-- queues 0 and 1 are On, and there is no other
not_enabled : (queue : ℕ) → is_bad_queues (one_group_in On (On ∷ On ∷ [])) (Queue queue) ≡ false
    → may_come (one_group_in On (On ∷ On ∷ [])) Enable (Queue queue) ≡ true → ⊥
not_enabled zero there may = grind (arith, may)
not_enabled (suc zero) there may = grind (arith, may)
not_enabled (suc (suc queue)) there may = grind (arith, there)

pub returns-clause-queues_are_on : goal.returns-clause-queues_are_on
returns-clause-queues_are_on c s' is = not_enabled is.queue is.granted.queues is.granted.phases

-- a deed that finds what is On does not come while the device is Off
none_may : (deed : Deed) (scope : Scope) → suits deed Off ≡ false → may_come (one_group_in Off []) deed scope ≡ false
none_may deed Device is = is
none_may deed (Queue queue) is = refl
none_may deed (Queues queues) is = refl
none_may deed (Pasid pasid) is = refl

pub returns-clause-none_begins : goal.returns-clause-none_begins
returns-clause-none_begins c s' is = ⊎_elim
    (λ begun.
    let no = none_may (deed_of is.active.command) (scope_of is.active.command) (⊎_elim
    (λ (same : deed_of is.active.command ≡ Disable). subst (λ deed. suits deed Off ≡ false) (sym same) refl)
    (λ (same : deed_of is.active.command ≡ Drain). subst (λ deed. suits deed Off ≡ false) (sym same) refl)
    begun.deed) in
    grind (arith, no, begun.granted.phases))
    (λ active. grind (arith, active))
    is.begun

pub returns-clause-none_aborts : goal.returns-clause-none_aborts
returns-clause-none_aborts c s' is = grind (arith, none_may Abort (scope_of is.command) refl, is.granted.phases)

-- the number of the command that aborted the first
abbrev number_in : Fate → ℕ
number_in (Aborted number) = number
number_in _ = 0

abbrev first_number : List FateRow → ℕ
first_number [] = 0
first_number (row ∷ rows) = number_in row.fate

numbered : (number other : ℕ) (pairs : List HeldEntry) → 0 < other
    → first_number (map (fate_row (Aborted number)) pairs) ≡ other → number ≡ other
numbered number other [] more is = let none : 0 ≡ other = is in absurd (omega (arith, more, none))
numbered number other (pair ∷ pairs) more is = is

-- no command that aborts has the number of Drain All, nor does one that resets have that of Abort All
none_aborts_as_3 : (command : Command) → deed_of command ≡ Abort → number_of_command command ≡ 3 → ⊥
none_aborts_as_3 command is number = grind (arith, is, number)

none_resets_as_4 : (command : Command) → deed_of command ≡ Reset → number_of_command command ≡ 4 → ⊥
none_resets_as_4 command is number = grind (arith, is, number)

pub returns-clause-no_abort : goal.returns-clause-no_abort
returns-clause-no_abort c is = none_aborts_as_3 is.command is.deed
    (numbered (number_of_command is.command) 3 _ (lit≤ tt) (ap (λ (s : State). first_number s.work.fates) is.after))

pub returns-clause-no_reset : goal.returns-clause-no_reset
returns-clause-no_reset c is = none_resets_as_4 is.command is.deed
    (numbered (number_of_command is.command) 4 _ (lit≤ tt) (ap (λ (s : State). first_number s.work.fates) is.after))

not_off : (queue : ℕ) → has_queue (one_group_in On (On ∷ On ∷ [])) queue ≡ true
    → is_off (phase_at (one_group_in On (On ∷ On ∷ [])) queue) ≡ true → ⊥
not_off zero has off = grind (arith, off)
not_off (suc zero) has off = grind (arith, off)
not_off (suc (suc queue)) has off = grind (arith, has)

pub returns-clause-locked : goal.returns-clause-locked
returns-clause-locked c s' is = not_off is.queue is.has is.off

-- the state in which queue 1 alone is Off, and it with this size
abbrev off_with : ℕ → State
off_with size = state_over (record (one_group_in On (On ∷ Off ∷ [])) {
  configs = shared_queue ∷ record dedicated_queue { size = size } ∷ [];
}) [] []

-- what is written there has this size, which is that of before
of_one_size : (size queue : ℕ) (config : QueueConfig) → has_queue (off_with 2).work.setup queue ≡ true
    → is_off (phase_at (off_with 2).work.setup queue) ≡ true
    → (not (is_off On) && not (config.size == (queue_at (off_with 2).work.setup.configs queue).size)) ≡ false
    → state_with_setup (off_with 2) (record (off_with 2).work.setup {
      configs = slice_set (off_with 2).work.setup.configs queue config;
    }) ≡ off_with size
    → not (size == 2) ≡ false
of_one_size size zero config has off is after = absurd (grind (arith, off))
of_one_size size (suc zero) config has off is after = subst (λ n. not (n == 2) ≡ false)
    (ap (λ (s : State). (queue_at s.work.setup.configs 1).size) after) is
of_one_size size (suc (suc queue)) config has off is after = absurd (grind (arith, has))

pub returns-clause-smaller : goal.returns-clause-smaller
returns-clause-smaller c is = grind (arith, of_one_size 1 is.queue is.config is.has is.off is.size is.after)

pub returns-clause-larger : goal.returns-clause-larger
returns-clause-larger c is = grind (arith, of_one_size 3 is.queue is.config is.has is.off is.size is.after)

pub returns-clause-not_refused : goal.returns-clause-not_refused
returns-clause-not_refused c is =
    let queue = ap (λ (s : State). unwrap_or (option_map (λ (n : NotedError). n.queue) s.work.setup.noted) 0) is.after in
    let cause = ap (λ (s : State). unwrap_or (option_map (λ (n : NotedError). n.cause) s.work.setup.noted) NotEnabled)
    is.after in
    let at_one = subst (λ q. IsRefused (state_on [] []).work q is.portal Movdir64b is.cause) queue is.refused in
    let of_kind = subst (λ it. IsRefused (state_on [] []).work 1 is.portal Movdir64b it) cause at_one in
    grind (arith, of_kind.1)
