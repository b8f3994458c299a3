use Rattle.dsa_conform.proofs.rows.objects.Goals as goal
use Rattle.std.proofs.Common.{[], ◌∷◌, refl}
use Rattle.dsa_book.specs.declared.event.Event.TheVariants.{Poll}
use Rattle.dsa_scenario.specs.declared.actions.Action.TheVariants.{Ask}
use Rattle.dsa_conform.specs.Seen.{nothing_seen}
use Rattle.dsa_conform.proofs.Objects.{not_second}

pub returns-clause-read : goal.returns-clause-read
returns-clause-read c = refl

pub returns-clause-not_read : goal.returns-clause-not_read
returns-clause-not_read c are = absurd cc

pub returns-clause-last_not_read : goal.returns-clause-last_not_read
returns-clause-last_not_read c are = not_second _ [] ((Ask Poll, nothing_seen) ∷ []) are

pub returns-clause-first : goal.returns-clause-first
returns-clause-first c = record { done = (Ask Poll, nothing_seen) ∷ []; before = refl; here = refl }

pub returns-clause-before : goal.returns-clause-before
returns-clause-before c is =
    let here = is.here in
    absurd cc

pub returns-clause-behind : goal.returns-clause-behind
returns-clause-behind c is = not_second _ [] is.done is.before

pub returns-clause-past_the_end : goal.returns-clause-past_the_end
returns-clause-past_the_end c is =
    let here = is.here in
    absurd cc
