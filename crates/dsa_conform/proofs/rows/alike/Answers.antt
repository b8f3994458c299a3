use Rattle.dsa_conform.proofs.rows.alike.Goals as goal
use Rattle.std.proofs.Common.{◌≡◌, ℕ, Bool, true, false, List, Option, Some, None, codes, bytes_eq, refl, ap, subst}
use Rattle.std.specs.{Prelude.{◌&&◌}, Fmt.{digits}}
use Rattle.dsa_book.specs.declared.answer.SubmitAnswer.TheVariants.{Accepted}
use Rattle.dsa_scenario.specs.Worked.{record_ticket}
use Rattle.dsa_conform.specs.{Allowed.{AreSeenAlike}, Seen.{answer_shown, zf_shown}}
use Rattle.dsa_conform.specs.Worked.{from_first, from_second, flagged, by_enqcmd}
use Rattle.dsa_conform.proofs.{RowRuns.{nothing, only_nothing}, RowTakes.{first_allowed, second_allowed}}

-- the same is seen of an entry that comes into one cell or the other
same_shown : (answer : Option (List ℕ)) (zf : Option Bool)
    → (answer_shown answer (by_enqcmd (Accepted (record_ticket 3 12)))
    && zf_shown zf (by_enqcmd (Accepted (record_ticket 3 12))))
    ≡ (answer_shown answer (by_enqcmd (Accepted (record_ticket 9 12)))
    && zf_shown zf (by_enqcmd (Accepted (record_ticket 9 12))))
same_shown None None = refl
same_shown None (Some flag) = refl
same_shown (Some text) None = refl
same_shown (Some text) (Some flag) = refl

pub returns-clause-cells : goal.returns-clause-cells
returns-clause-cells c = record { texts = refl; shown = λ seen. same_shown seen.answer seen.zf }

pub returns-clause-queues : goal.returns-clause-queues
unfolding digits
returns-clause-queues c are =
    let none : true ≡ false = ap (bytes_eq (codes "taken 0 from 0")) are.texts in
    absurd cc

pub returns-clause-flags : goal.returns-clause-flags
unfolding digits
returns-clause-flags c are =
    let none = are.shown (flagged false) in
    absurd cc

pub returns-clause-either : goal.returns-clause-either
unfolding digits
returns-clause-either c one =
    let alike = one from_first from_second first_allowed second_allowed in
    let none : true ≡ false = ap (bytes_eq (codes "taken 0 from 0")) alike.texts in
    absurd cc

pub returns-clause-poll : goal.returns-clause-poll
returns-clause-poll c = tt

pub returns-clause-word : goal.returns-clause-word
returns-clause-word c = tt

pub returns-clause-one : goal.returns-clause-one
returns-clause-one c first second is also =
    subst (λ entry. AreSeenAlike first entry) (only_nothing second also)
    (subst (λ entry. AreSeenAlike entry nothing) (only_nothing first is)
    (record { texts = refl; shown = λ seen. refl }))
