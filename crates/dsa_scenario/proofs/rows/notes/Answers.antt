use Rattle.dsa_scenario.proofs.rows.notes.Goals as goal
use Rattle.std.proofs.Common.{refl}

pub returns-clause-told_without_a_note : goal.returns-clause-told_without_a_note
returns-clause-told_without_a_note c is =
    let noted = is.0 refl in
    absurd cc

pub returns-clause-untold : goal.returns-clause-untold
returns-clause-untold c is =
    let same = is.1 in
    absurd cc

pub returns-clause-told_as_another : goal.returns-clause-told_as_another
returns-clause-told_as_another c is =
    let same = is.2 (λ write. absurd cc) in
    absurd cc

pub returns-clause-refusal_untold : goal.returns-clause-refusal_untold
returns-clause-refusal_untold c old new taken refused is =
    let same = is.refused.1 in
    absurd cc

pub returns-clause-noted : goal.returns-clause-noted
returns-clause-noted c = (λ told. refl, tt, λ other. absurd (other refl))

pub returns-clause-nothing_noted : goal.returns-clause-nothing_noted
returns-clause-nothing_noted c = (λ told. absurd cc, tt, λ other. refl)

pub returns-clause-refusal : goal.returns-clause-refusal
returns-clause-refusal c old new same well refused =
    record { same = same; refused = (λ told. refused, tt, λ other. absurd (other refl)) }

pub returns-clause-another_writer : goal.returns-clause-another_writer
returns-clause-another_writer c old new other is = other is.same

pub returns-clause-refused : goal.returns-clause-refused
returns-clause-refused c watched refused = refused

pub returns-clause-closed : goal.returns-clause-closed
returns-clause-closed c watched closed = closed
