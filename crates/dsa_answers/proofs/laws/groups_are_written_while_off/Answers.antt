use Rattle.dsa_answers.proofs.laws.groups_are_written_while_off.Goals as goal
use Rattle.std.proofs.{Common.{◌≡◌, ◌<◌, true, sym, refl}, lemmas.Bool.{ltb-true, lt-ltb, not-false}}
use Rattle.std.specs.Prelude.{slice_set}
use Rattle.dsa_base.proofs.Tables.{when-some, table2}
use Rattle.dsa_regs.specs.declared.{Phase.TheVariants.{Off}, Fault.TheVariants.{BadIndex, Locked}}
use Rattle.dsa_book.specs.declared.answer.WriteAnswer.{WriteAnswer, TheVariants.{Written, Refused}}
use Rattle.dsa_book.specs.declared.{event.Event.TheVariants.{WriteGroup}, answer.Reply.TheVariants.{Write}}
use Rattle.dsa_book.specs.{Commands.{write_group}, Machine.{state_with_setup}, Same.{same_reply}, State.{Setup}}
use Rattle.dsa_answers.proofs.{Writes.{is-off}, Choices.{replies-alike}}

pub returns-clause-written : goal.returns-clause-written
returns-clause-written c s g config below off = rw (lt-ltb g s.work.setup.caps.groups below, off) refl

pub returns-clause-nothing_else : goal.returns-clause-nothing_else
returns-clause-nothing_else c s s' g config reply below off h =
    sym (replies-alike s _ s' (WriteGroup g config) (Write Written) reply
    (returns-clause-written c s g config below off) h)

pub returns-clause-no_other_group : goal.returns-clause-no_other_group
returns-clause-no_other_group c s s' g config h =
    let p = when-some (same_reply (Write Written) (Write (write_group s.work.setup g config).0))
    (state_with_setup s (write_group s.work.setup g config).1) s' h in
    table2 (λ (r : WriteAnswer × Setup). same_reply (Write Written) (Write r.0) ≡ true
    → (g < s.work.setup.caps.groups) × (s.work.setup.device ≡ Off)) _ _
    (Refused BadIndex, s.work.setup) (Refused Locked, s.work.setup)
    (Written, record s.work.setup { groups = slice_set s.work.setup.groups g config })
    (λ x t. absurd cc) (λ x t. absurd cc)
    (λ x y t. (ltb-true g s.work.setup.caps.groups (not-false _ x), is-off _ (not-false _ y)))
    p.0
