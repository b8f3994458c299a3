use Rattle.dsa_answers.proofs.laws.queues_that_are_off_are_written.Goals as goal
use Rattle.std.proofs.{Common.{◌≡◌, ◌<◌, true, sym, refl}, lemmas.Bool.{ltb-true, lt-ltb, not-false}}
use Rattle.std.specs.Prelude.{slice_set}
use Rattle.dsa_base.proofs.Tables.{when-some, table3}
use Rattle.dsa_regs.specs.declared.{Phase.TheVariants.{Off}, Fault.TheVariants.{BadIndex, Locked}}
use Rattle.dsa_book.specs.declared.answer.WriteAnswer.{WriteAnswer, TheVariants.{Written, Refused}}
use Rattle.dsa_book.specs.declared.{event.Event.TheVariants.{WriteQueue}, answer.Reply.TheVariants.{Write}}
use Rattle.dsa_book.specs.{State.{Setup, phase_at}, Commands.{write_queue}, Machine.{state_with_setup}}
use Rattle.dsa_book.specs.Same.{same_reply}
use Rattle.dsa_answers.proofs.{Writes.{is-off, free-size}, Choices.{replies-alike}}

pub returns-clause-written : goal.returns-clause-written
returns-clause-written c s q config below off size =
    rw (lt-ltb q s.work.setup.caps.queues below, off, free-size s.work.setup.device config.size _ size) refl

pub returns-clause-nothing_else : goal.returns-clause-nothing_else
returns-clause-nothing_else c s s' q config reply below off size h =
    sym (replies-alike s _ s' (WriteQueue q config) (Write Written) reply
    (returns-clause-written c s q config below off size) h)

pub returns-clause-no_other_queue : goal.returns-clause-no_other_queue
returns-clause-no_other_queue c s s' q config h =
    let p = when-some (same_reply (Write Written) (Write (write_queue s.work.setup q config).0))
    (state_with_setup s (write_queue s.work.setup q config).1) s' h in
    table3 (λ (r : WriteAnswer × Setup). same_reply (Write Written) (Write r.0) ≡ true
    → (q < s.work.setup.caps.queues) × (phase_at s.work.setup q ≡ Off)) _ _ _
    (Refused BadIndex, s.work.setup) (Refused Locked, s.work.setup) (Refused Locked, s.work.setup)
    (Written, record s.work.setup { configs = slice_set s.work.setup.configs q config })
    (λ x t. absurd cc) (λ x t. absurd cc) (λ x t. absurd cc)
    (λ x y z t. (ltb-true q s.work.setup.caps.queues (not-false _ x), is-off _ (not-false _ y)))
    p.0
